-- `float_of` meets its contract: a pattern that is no not-a-number's, or the not-a-number. Assumes nothing.
use mathlib.Core.Path.{◌∙◌}
use Rattle.c_numbers.proofs.Floats.{no_nan, nan_of, nan_bits_nan}
use Rattle.c_numbers.proofs.float_of.Goals as goal

pub float_from_bits-result : goal.float_from_bits-result
float_from_bits-result c = no_nan _ c.if-bits-le-INFINITY.true

pub returns-else-bits-le-INFINITY : goal.returns-else-bits-le-INFINITY
returns-else-bits-le-INFINITY c = nan_bits_nan ∙ nan_of _ c.if-bits-le-INFINITY.false
