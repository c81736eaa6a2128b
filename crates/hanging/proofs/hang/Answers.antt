-- `hanging::hang` meets its contract: at the head of the loop each entry is the lowest of the segments looked at that fits (`Hanging`).
use mathlib.Core.Path.{◌≡◌, refl}
use native.Mathlib.Omega.{arith}
use lib.ListN.{length}
use Rattle.hanging.proofs.Filling.{filled_many, filled_front}
use Rattle.hanging.proofs.Hanging.{hanging_more, hanging_skip, hanging_all}
use Rattle.hanging.proofs.hang.Goals as goal
use Rattle.hanging.proofs.hang.Goals.{then-present-i, else-present-i}

pub loop-i-preserved : goal.loop-i-preserved
loop-i-preserved c =
    let p = c.requires in
    let l = c.loop-i-test.true in
    let inv = c.loop-i.invariant in
    elim c.if-present-i.branch [
      | then-present-i w ↦ rw w.tree-is (hanging_more p.sides p.low.many l w.if-present-i.true w.from-x.ensures w.from-y.ensures refl refl w.hook_both.ensures w.hook_both.auto.tree inv)
      | else-present-i w ↦ rw w.tree-is (hanging_skip l w.if-present-i.false inv)
    ]

pub returns : goal.returns
returns c = record {
  hung = let p = c.requires in
      let e : c.loop-i.i ≡ length c.args.segments.a.now = omega (arith, c.loop-i-test.false, c.loop-i.invariant.up_to) in
      let h = c.loop-i.invariant in
      let f = c.fill.ensures.after (λ y q. q) in
      hanging_all c.args.tree.now p.sides p.posts_in_bounds (filled_many _ c.args.tree.now p.posts_in_bounds f) (filled_front _ c.args.tree.now p.posts_in_bounds f) (rw e at h);
}
