-- `put_ratio` meets its contract: p, the stroke and q, each behind the other.
use native.Mathlib.Omega.{arith}
use Rattle.lines.specs.Text.{ratio_text}
use Rattle.lines.proofs.Placing.{wrote_then}
use Rattle.lines.proofs.Lengths.{ratio_length}
use Rattle.lines.proofs.Text.put_ratio.Goals as goal

pub put_spaced-requires : goal.put_spaced-requires
put_spaced-requires c = omega (arith, ratio_length c.args.p c.args.q)

pub put_byte-requires : goal.put_byte-requires
put_byte-requires c = omega (arith, ratio_length c.args.p c.args.q)

pub put_decimal-requires : goal.put_decimal-requires
put_decimal-requires c = omega (arith, ratio_length c.args.p c.args.q)

pub returns : goal.returns
unfolding ratio_text
returns c = wrote_then (wrote_then c.put_spaced.ensures c.put_byte.ensures) c.put_decimal.ensures
