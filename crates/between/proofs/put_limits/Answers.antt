-- `put_limits` meets its contract: each turn of its loop puts one entry of the table. Assumes nothing.
use Rattle.std.proofs.Common.{length, get_or, ap, ◌∙◌, arith}
use Rattle.net.specs.Trees.{none_yet}
use Rattle.net.proofs.Segments.{get_d_any}
use Rattle.between.specs.Given.{limit_by}
use Rattle.between.proofs.Lists.{tab_none, tab_more, tab_all}
use Rattle.between.proofs.put_limits.Goals as goal

pub loop-v-init : goal.loop-v-init
loop-v-init c = tab_none _ _ _ c.requires.dist_in_bounds

pub loop-v-preserved : goal.loop-v-preserved
loop-v-preserved c = let r = c.args.ratios in
    let v = c.loop-v.v in
    tab_more _ (length c.args.dist.now) c.loop-v.invariant (omega arith) _ (c.limit_of.ensures
    ∙ ap (limit_by (get_or r.p.now v 0) (get_or r.q.now v 0)) (get_d_any c.args.dist.now v 0 none_yet (omega arith)))

pub returns : goal.returns
returns c = tab_all _ (length c.args.dist.now) c.loop-v.invariant (omega arith)
