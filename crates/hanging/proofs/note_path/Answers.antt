-- `hanging::note_path` meets its contract: at the head of the loop the posts passed are noted, and what is left is the path of the next (`Noting`).
use mathlib.Core.Path.{refl}
use Rattle.hanging.proofs.Paths.{segment_in, step_up, noting_more}
use native.Mathlib.Omega.{arith}
use Rattle.hanging.proofs.note_path.Goals as goal

pub bounds-segments-e : goal.bounds-segments-e
bounds-segments-e c =
    let z = c.args.tree.listed in
    let w = c.loop-paths.invariant in
    omega (arith, segment_in z w.known w.here c.loop-paths-test.true c.from-e.ensures, z.lengths_many)

pub overflow_sub-left : goal.overflow_sub-left
overflow_sub-left c =
    let w = c.loop-paths.invariant in
    let s = step_up c.args.tree.listed w.known w.here c.loop-paths-test.true c.from-e.ensures refl refl refl refl in
    omega (arith, w.is, s.path)

pub bounds-segments-e-in-loop-paths : goal.bounds-segments-e-in-loop-paths
bounds-segments-e-in-loop-paths c = let w = c.loop-paths.invariant in segment_in c.args.tree.listed w.known w.here c.loop-paths-test.true c.from-e.ensures

pub bounds-segments-e-in-loop-paths-2 : goal.bounds-segments-e-in-loop-paths-2
bounds-segments-e-in-loop-paths-2 c =
    let z = c.args.tree.listed in
    let w = c.loop-paths.invariant in
    omega (arith, segment_in z w.known w.here c.loop-paths-test.true c.from-e.ensures, z.b_many)

pub loop-paths-smaller : goal.loop-paths-smaller
loop-paths-smaller c =
    let w = c.loop-paths.invariant in
    (step_up c.args.tree.listed w.known w.here c.loop-paths-test.true c.from-e.ensures refl refl refl c.across-v.ensures).nearer

pub loop-paths-preserved : goal.loop-paths-preserved
loop-paths-preserved c =
    let w = c.loop-paths.invariant in
    noting_more _ _ _ c.requires.listed.0 w (step_up c.args.tree.listed w.known w.here c.loop-paths-test.true c.from-e.ensures refl refl refl c.across-v.ensures)
