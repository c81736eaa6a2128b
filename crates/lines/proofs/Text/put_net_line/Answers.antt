-- `put_net_line` meets its contract: six texts, each behind the other.
use native.Mathlib.Omega.{arith}
use Rattle.lines.specs.Text.{net_line}
use Rattle.lines.proofs.Placing.{wrote_then}
use Rattle.lines.proofs.Lengths.{net_length}
use Rattle.lines.proofs.Text.put_net_line.Goals as goal

pub put_bytes-requires : goal.put_bytes-requires
put_bytes-requires c = omega (arith, net_length c.args.head.posts c.args.segments c.args.head.source c.args.head.p c.args.head.q)

pub put_spaced-requires : goal.put_spaced-requires
put_spaced-requires c = omega (arith, net_length c.args.head.posts c.args.segments c.args.head.source c.args.head.p c.args.head.q)

pub put_spaced-requires-2 : goal.put_spaced-requires-2
put_spaced-requires-2 c = omega (arith, net_length c.args.head.posts c.args.segments c.args.head.source c.args.head.p c.args.head.q)

pub put_spaced-requires-3 : goal.put_spaced-requires-3
put_spaced-requires-3 c = omega (arith, net_length c.args.head.posts c.args.segments c.args.head.source c.args.head.p c.args.head.q)

pub put_ratio-requires : goal.put_ratio-requires
put_ratio-requires c = omega (arith, net_length c.args.head.posts c.args.segments c.args.head.source c.args.head.p c.args.head.q)

pub put_byte-requires : goal.put_byte-requires
put_byte-requires c = omega (arith, net_length c.args.head.posts c.args.segments c.args.head.source c.args.head.p c.args.head.q)

pub returns : goal.returns
unfolding net_line
returns c = wrote_then (wrote_then (wrote_then (wrote_then (wrote_then c.put_bytes.ensures c.put_spaced.ensures) c.put_spaced-2.ensures) c.put_spaced-3.ensures) c.put_ratio.ensures) c.put_byte.ensures
