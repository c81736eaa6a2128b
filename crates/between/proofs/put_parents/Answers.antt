-- `put_parents` meets its contract: each turn of its loop puts one entry of the table. Assumes nothing.
use Rattle.std.proofs.Common.{length, ℕ, ap, ◌∙◌, arith}
use Rattle.net.specs.Words.{no_segment}
use Rattle.net.proofs.Segments.{get_d_any}
use Rattle.between.specs.Given.{the_end_beyond}
use Rattle.between.proofs.Lists.{tab_none, tab_more, tab_all}
use Rattle.between.proofs.put_parents.Goals as goal

pub loop-v-init : goal.loop-v-init
loop-v-init c = tab_none _ _ _ c.requires

pub loop-v-preserved : goal.loop-v-preserved
loop-v-preserved c = let s = c.args.segments in
    let v = c.loop-v.v in
    tab_more _ (length c.args.shortest.now) c.loop-v.invariant (omega arith) _ (c.end_beyond.ensures
    ∙ ap (λ (i : ℕ). the_end_beyond s.a.now s.b.now i v)
    (c.from.ensures ∙ get_d_any c.args.shortest.now v 0 no_segment (omega arith)))

pub returns : goal.returns
returns c = tab_all _ (length c.args.shortest.now) c.loop-v.invariant (omega arith)
