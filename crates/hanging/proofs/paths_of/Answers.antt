-- `hanging::paths_of` meets its contract: at the head of the loop the paths of the posts passed are known (`Learning`).
use mathlib.Core.Path.{◌≡◌}
use Rattle.hanging.proofs.Paths.{begun_known, begun_rest, learning_none, learning_all}
use native.Mathlib.Omega.{arith}
use lib.ListN.{length-append, length-drop, length-take}
use Rattle.hanging.proofs.paths_of.Goals as goal

pub loop-v-init : goal.loop-v-init
loop-v-init c =
    let z = c.args.tree in
    learning_none _ _ _ (begun_known z.posts z.tree.now z.listed.entries c.args.paths.now c.begin_paths.ensures.begun _)

pub returns : goal.returns
returns c = record {
  measured = let e : c.loop-v.v ≡ c.args.tree.posts = omega (arith, c.loop-v-test.false, c.loop-v.invariant.up_to) in
      let w = c.loop-v.invariant in
      let z = c.args.tree in
      learning_all _ _ _ c.args.paths.now c.requires
      (simp (length-append, length-drop) (omega (arith, c.requires, simp length-take at c.begin_paths.auto.paths)))
      (begun_rest z.posts z.tree.now z.listed.entries c.args.paths.now c.begin_paths.ensures.begun) (rw e at w);
}
