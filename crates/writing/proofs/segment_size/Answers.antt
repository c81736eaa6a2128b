-- `segment_size` meets its contract: the length of three runs of bytes is the sum of their lengths. Assumes nothing.
use native.Mathlib.Omega.{arith}
use Rattle.writing.proofs.Puts.{segment_size}
use Rattle.writing.proofs.segment_size.Goals as goal

pub returns : goal.returns
returns c = (segment_size _ c.from.ensures c.from-2.ensures c.number_size.ensures.sized.0 c.number_size-2.ensures.sized.0 c.number_size-3.ensures.sized.0, omega arith)
