-- `put_tree_line` meets its contract: five texts, each behind the other.
use native.Mathlib.Omega.{arith}
use Rattle.lines.specs.Text.{tree_line}
use Rattle.lines.proofs.Placing.{wrote_then}
use Rattle.lines.proofs.Lengths.{tree_length}
use Rattle.lines.proofs.Text.put_tree_line.Goals as goal

pub put_bytes-requires : goal.put_bytes-requires
put_bytes-requires c = omega (arith, tree_length c.args.name.now c.args.measured.length c.args.measured.radius c.args.head.posts c.args.head.source c.args.entries.now)

pub put_spaced-requires : goal.put_spaced-requires
put_spaced-requires c = omega (arith, tree_length c.args.name.now c.args.measured.length c.args.measured.radius c.args.head.posts c.args.head.source c.args.entries.now)

pub put_spaced-requires-2 : goal.put_spaced-requires-2
put_spaced-requires-2 c = omega (arith, tree_length c.args.name.now c.args.measured.length c.args.measured.radius c.args.head.posts c.args.head.source c.args.entries.now)

pub put_entries-requires : goal.put_entries-requires
put_entries-requires c = record { posts_bound = c.requires.posts_bound; posts_bound_2 = omega (arith, tree_length c.args.name.now c.args.measured.length c.args.measured.radius c.args.head.posts c.args.head.source c.args.entries.now) }

pub put_byte-requires : goal.put_byte-requires
put_byte-requires c = omega (arith, tree_length c.args.name.now c.args.measured.length c.args.measured.radius c.args.head.posts c.args.head.source c.args.entries.now)

pub returns : goal.returns
unfolding tree_line
returns c = wrote_then (wrote_then (wrote_then (wrote_then c.put_bytes.ensures c.put_spaced.ensures) c.put_spaced-2.ensures) c.put_entries.ensures) c.put_byte.ensures
