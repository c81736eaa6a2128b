-- `put_entry` meets its contract: nothing for the source, and the entry of any other post.
use native.Mathlib.Omega.{arith}
use Rattle.lines.proofs.Entries.{put_source, put_other, other_length}
use Rattle.lines.proofs.Text.put_entry.Goals as goal

pub put_spaced-requires : goal.put_spaced-requires
put_spaced-requires c = omega (arith, other_length c.args.source c.args.v c.args.entry c.if-v-source.true c.from.ensures)

pub returns-then-v-source : goal.returns-then-v-source
returns-then-v-source c = put_other _ _ _ c.if-v-source.true c.from.ensures c.put_spaced.ensures

pub returns-else-v-source : goal.returns-else-v-source
returns-else-v-source c = put_source _ _ _ _ c.if-v-source.false (omega arith)
