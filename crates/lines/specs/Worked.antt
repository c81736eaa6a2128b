-- Numbers as text, worked: the least, and the largest of 32 bits. proofs/Worked computes both. What the program prints
-- for whole records is the program's table.
use Rattle.std.specs.Prelude.{◌≡◌, [], ◌∷◌}
use Rattle.lines.specs.Text.{decimal}

pub record LinesWorked : Type 0 where
  pub least_number : decimal 0 ≡ 48 ∷ []
  pub largest_number : decimal 4294967295 ≡ 52 ∷ 50 ∷ 57 ∷ 52 ∷ 57 ∷ 54 ∷ 55 ∷ 50 ∷ 57 ∷ 53 ∷ []
