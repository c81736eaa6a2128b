-- The joinings worked by hand hold: every row is computed from the definition.
use mathlib.Core.Path.{refl}
use Rattle.lightest.specs.Parts.{renamed, members, joined_labels}
use Rattle.lightest.specs.Worked.{PartsWorked}

pub parts_worked : PartsWorked
unfolding renamed members joined_labels
parts_worked = record { join_0_1 = refl; join_2_3 = refl; join_2_4 = refl; join_1_3 = refl; join_5_0 = refl }
