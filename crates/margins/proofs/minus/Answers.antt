-- `minus` meets its contract: numbers below 2^63 and their difference fit 64 bits with a sign. Assumes nothing.
use Rattle.margins.proofs.Margins.{pos_is, difference_fits, difference_is}
use Rattle.margins.proofs.minus.Goals as goal

pub overflow_sub-result : goal.overflow_sub-result
overflow_sub-result c = rw (pos_is _ c.requires.0, pos_is _ c.requires.1) (difference_fits _ _ c.requires.0 c.requires.1)

pub returns : goal.returns
returns c = rw (pos_is _ c.requires.0, pos_is _ c.requires.1) (difference_is _ _ c.requires.0 c.requires.1)
