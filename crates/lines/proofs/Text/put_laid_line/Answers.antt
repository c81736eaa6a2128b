-- `put_laid_line` meets its contract: three texts, each behind the other.
use native.Mathlib.Omega.{arith}
use Rattle.lines.specs.Text.{laid_line}
use Rattle.lines.proofs.Placing.{wrote_then}
use Rattle.lines.proofs.Lengths.{laid_length}
use Rattle.lines.proofs.Text.put_laid_line.Goals as goal

pub put_bytes-requires : goal.put_bytes-requires
put_bytes-requires c = omega (arith, laid_length c.args.laid)

pub put_spaced-requires : goal.put_spaced-requires
put_spaced-requires c = omega (arith, laid_length c.args.laid)

pub put_byte-requires : goal.put_byte-requires
put_byte-requires c = omega (arith, laid_length c.args.laid)

pub returns : goal.returns
unfolding laid_line
returns c = wrote_then (wrote_then c.put_bytes.ensures c.put_spaced.ensures) c.put_byte.ensures
