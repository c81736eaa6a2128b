-- Six posts joined to one part, worked by hand: the labels after each of five joinings. In the first three v's part has
-- no more posts than u's and is renamed; in the last two u's part has fewer and is renamed. proofs/Worked computes all
-- rows.
use Rattle.std.specs.Prelude.{◌≡◌, [], ◌∷◌}
use Rattle.lightest.specs.Parts.{joined_labels}

pub record PartsWorked : Type 0 where
  pub join_0_1 : joined_labels (0 ∷ 1 ∷ 2 ∷ 3 ∷ 4 ∷ 5 ∷ []) 0 1 ≡ 0 ∷ 0 ∷ 2 ∷ 3 ∷ 4 ∷ 5 ∷ []
  pub join_2_3 : joined_labels (0 ∷ 0 ∷ 2 ∷ 3 ∷ 4 ∷ 5 ∷ []) 2 3 ≡ 0 ∷ 0 ∷ 2 ∷ 2 ∷ 4 ∷ 5 ∷ []
  pub join_2_4 : joined_labels (0 ∷ 0 ∷ 2 ∷ 2 ∷ 4 ∷ 5 ∷ []) 2 4 ≡ 0 ∷ 0 ∷ 2 ∷ 2 ∷ 2 ∷ 5 ∷ []
  pub join_1_3 : joined_labels (0 ∷ 0 ∷ 2 ∷ 2 ∷ 2 ∷ 5 ∷ []) 1 3 ≡ 2 ∷ 2 ∷ 2 ∷ 2 ∷ 2 ∷ 5 ∷ []
  pub join_5_0 : joined_labels (2 ∷ 2 ∷ 2 ∷ 2 ∷ 2 ∷ 5 ∷ []) 5 0 ≡ 2 ∷ 2 ∷ 2 ∷ 2 ∷ 2 ∷ 2 ∷ []
