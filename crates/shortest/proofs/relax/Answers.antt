-- `shortest::relax` meets its contract: at the head of the loop what is not offered yet is still on the row (`Walking`), and the ladder has the notes of the open posts; codes fall.
use mathlib.Core.Path.{◌≡◌, refl, ◌∙◌}
use Prim.Native.Nat.{◌-◌, ◌/◌, ◌<◌}
use native.Mathlib.Omega.{arith}
use lib.ListN.{length}
use Rattle.shortest.proofs.Rows.{walking_more, walking_skip, walked}
use Rattle.shortest.proofs.Settling.{not_both}
use Rattle.shortest.proofs.relax.Goals as goal
use Rattle.shortest.proofs.relax.Goals.{then-present-i, else-present-i}

pub loop-c-preserved : goal.loop-c-preserved
loop-c-preserved c =
    let inv = c.loop-c.invariant in
    let l : (c.loop-c.c - 1) / 2 < length c.args.net.segments.a.now = omega (arith, c.loop-c-test.true, inv.0.low) in
    let e = c.from-c-in-loop-c.ensures ∙ c.at-in-loop-c.ensures.read in
    let d = c.args.net.index_of.falls _ c.loop-c-test.true inv.0.low in
    elim c.if-present-i.branch [
      | then-present-i w ↦ rw (w.dist-is, w.ladder-is) (
        walking_more inv.0 refl l w.if-present-i.true w.from-x.ensures w.from-y.ensures (omega (arith, w.from.ensures)) w.offer.ensures.offered w.offer.auto.dist e (omega (arith, e, d)),
        w.offer.auto.ladder ∙ inv.1,
        w.offer.ensures.open_posts_2,
      )
      | else-present-i w ↦ rw (w.dist-is, w.ladder-is) (walking_skip inv.0 refl (λ t. not_both t w.if-present-i.false) e (omega (arith, e, d)), inv.1, inv.2)
    ]

pub returns-clause-relaxed : goal.returns-clause-relaxed
returns-clause-relaxed c =
    let e : c.loop-c.c ≡ 0 = omega (arith, c.loop-c-test.false) in
    let r = c.loop-c.invariant.0 in
    walked (rw e at r)
