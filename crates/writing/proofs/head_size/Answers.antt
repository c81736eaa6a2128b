-- `head_size` meets its contract: the first number and the five. Assumes nothing.
use native.Mathlib.Omega.{arith}
use Rattle.writing.proofs.Puts.{head_length}
use Rattle.writing.proofs.head_size.Goals as goal

pub returns : goal.returns
returns c = (omega (arith, head_length c.args.head c.args.count, c.form_size.ensures.0, c.numbers_size.ensures.0), omega arith)
