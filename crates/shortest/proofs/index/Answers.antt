-- `shortest::index` meets its contract: at the head of the loop the ends of the segments passed are in their rows (`Indexing`).
use mathlib.Core.Path.{◌∙◌}
use native.Mathlib.Omega.{arith}
use Rattle.hanging.proofs.Filling.{filled_many, filled_front}
use Rattle.shortest.proofs.Rows.{indexing_none, indexing_more}
use Rattle.shortest.proofs.index.Goals as goal

pub loop-i-init : goal.loop-i-init
loop-i-init c =
    let p = c.requires in
    let l = c.args.first.now in
    let f = c.fill.ensures.after (λ y q. q) in
    indexing_none (omega (arith, p.0, filled_many _ l p.0 f)) p.1 (filled_front _ l p.0 f)

pub loop-i-preserved : goal.loop-i-preserved
loop-i-preserved c =
    let p = c.push in
    let q = c.push-in-loop-i in
    indexing_more c.loop-i.invariant c.loop-i-test.true c.from-x.ensures p.ensures p.auto.first p.auto.next
    (c.from-y.ensures ∙ c.at.ensures.read) q.ensures q.auto.first q.auto.next
