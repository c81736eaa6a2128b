-- The text read another way, for the laws in proofs/Digits and proofs/Meaning: digits read back as a number, and the
-- entries as a plain list.
use Rattle.std.specs.Prelude.{Bool, true, ◌&&◌, List, [], ◌∷◌, ◌++◌, ℕ, suc, ◌+◌, ◌-◌, ◌*◌, leb, take, drop}
use Rattle.lines.specs.Text.{spaced}

-- all of the bytes are digits, 48 to 57
unfoldable pub all_digits : List ℕ → Bool
all_digits [] = true
all_digits (b ∷ bs) = leb 48 b && leb b 57 && all_digits bs

-- the number that digits say, behind digits that say a
unfoldable pub value_from : ℕ → List ℕ → ℕ
value_from a [] = a
value_from a (b ∷ bs) = value_from (a * 10 + (b - 48)) bs

abbrev pub value : List ℕ → ℕ
value bs = value_from 0 bs

-- all of a list but what stands at s
unfoldable pub others : ℕ → List ℕ → List ℕ
others s l = take s l ++ drop (suc s) l

-- numbers one after the other, a space before each
unfoldable pub spaced_all : List ℕ → List ℕ
spaced_all [] = []
spaced_all (n ∷ ns) = spaced n ++ spaced_all ns
