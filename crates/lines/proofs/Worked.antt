-- The worked numbers hold: both are computed from the definition.
use mathlib.Core.Path.{refl}
use Rattle.lines.specs.Text.{spelled, decimal}
use Rattle.lines.specs.Worked.{LinesWorked}

pub lines_worked : LinesWorked
unfolding spelled decimal
lines_worked = record { least_number = refl; largest_number = refl }
