-- `put_spaced` meets its contract: a space, and the number behind it.
use native.Mathlib.Omega.{arith}
use Rattle.lines.specs.Text.{spaced}
use Rattle.lines.proofs.Placing.{wrote_then}
use Rattle.lines.proofs.Lengths.{spaced_length}
use Rattle.lines.proofs.Text.put_spaced.Goals as goal

pub put_byte-requires : goal.put_byte-requires
put_byte-requires c = omega (arith, spaced_length c.args.n)

pub put_decimal-requires : goal.put_decimal-requires
put_decimal-requires c = omega (arith, spaced_length c.args.n)

pub returns : goal.returns
unfolding spaced
returns c = wrote_then c.put_byte.ensures c.put_decimal.ensures
