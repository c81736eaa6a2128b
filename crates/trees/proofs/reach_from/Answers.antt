-- `reach_from` meets its contract: where a marked segment leads is reached, or the segment is still on the row (`Rowing`); codes fall. Assumes nothing.
use Rattle.std.proofs.Common.{◌≡◌, ◌-◌, ◌/◌, ◌<◌, ◌∙◌, refl, length, arith}
use Rattle.hanging.specs.Lists.{note}
use Rattle.trees.proofs.Along.{across_in, rowing_more, rowing_skip, rowed}
use Rattle.trees.proofs.reach_from.Goals as goal
use Rattle.trees.proofs.reach_from.Goals.{then-marked, else-marked}

pub loop-c-preserved : goal.loop-c-preserved
loop-c-preserved c =
    let low : (c.loop-c.c - 1) / 2 < length c.args.net.segments.a.now = omega (arith, c.loop-c-test.true, c.loop-c.invariant.low) in
    let down : note c.args.net.next.now c.loop-c.c < c.loop-c.c = c.args.net.index_of.falls _ c.loop-c-test.true c.loop-c.invariant.low in
    let to = c.from-c-in-loop-c.ensures ∙ c.at-in-loop-c.ensures.read in
    elim c.if-marked.branch [
      | then-marked w ↦
          let in_w = across_in c.requires.ends.0 low c.requires.u_reached.0 w.from.ensures w.from-then-marked.ensures w.across-w.ensures in
          rw (w.walk-is, w.tree-is)
          (rowing_more c.loop-c.invariant c.requires.u_reached.1 refl low w.if-marked.true w.from.ensures w.from-then-marked.ensures w.across-w.ensures in_w w.reach.ensures to (omega (arith, to, down)))
      | else-marked w ↦
          rw (w.walk-is, w.tree-is)
          (rowing_skip c.loop-c.invariant refl w.if-marked.false to (omega (arith, to, down)))
    ]

pub returns : goal.returns
returns c = let e : c.loop-c.c ≡ 0 = omega (arith, c.loop-c-test.false) in record { still_reaching = c.loop-c.invariant.reaching; grows = c.loop-c.invariant.grows; crossed = rowed (rw e at c.loop-c.invariant) }
