-- `hanging::find_path` meets its contract: at the head of the loop what was climbed and the path of the post reached make the path (`Finding`).
use mathlib.Core.Path.{refl}
use Rattle.hanging.proofs.Paths.{path_short, known_path, segment_in, step_up, finding_more}
use native.Mathlib.Omega.{arith}
use Rattle.hanging.proofs.find_path.Goals as goal

pub bounds-segments-e : goal.bounds-segments-e
bounds-segments-e c =
    let z = c.args.tree.listed in
    omega (arith, segment_in z c.requires.known c.loop-v.invariant.here c.loop-v-test.true c.from-e.ensures, z.lengths_many)

pub overflow_add-total : goal.overflow_add-total
overflow_add-total c =
    let z = c.args.tree.listed in
    let f = c.loop-v.invariant in
    let s = step_up z c.requires.known f.here c.loop-v-test.true c.from-e.ensures refl refl refl refl in
    omega (arith, f.is, s.path, path_short z c.args.post)

pub bounds-segments-e-in-loop-v : goal.bounds-segments-e-in-loop-v
bounds-segments-e-in-loop-v c = segment_in c.args.tree.listed c.requires.known c.loop-v.invariant.here c.loop-v-test.true c.from-e.ensures

pub bounds-segments-e-in-loop-v-2 : goal.bounds-segments-e-in-loop-v-2
bounds-segments-e-in-loop-v-2 c =
    let z = c.args.tree.listed in
    omega (arith, segment_in z c.requires.known c.loop-v.invariant.here c.loop-v-test.true c.from-e.ensures, z.b_many)

pub loop-v-smaller : goal.loop-v-smaller
loop-v-smaller c =
    let f = c.loop-v.invariant in
    (step_up c.args.tree.listed c.requires.known f.here c.loop-v-test.true c.from-e.ensures refl refl refl c.across-v.ensures).nearer

pub loop-v-preserved : goal.loop-v-preserved
loop-v-preserved c =
    let f = c.loop-v.invariant in
    finding_more _ _ _ f (step_up c.args.tree.listed c.requires.known f.here c.loop-v-test.true c.from-e.ensures refl refl refl c.across-v.ensures)

pub overflow_add-result : goal.overflow_add-result
overflow_add-result c =
    let z = c.args.tree.listed in
    let f = c.loop-v.invariant in
    omega (arith, f.is, known_path z c.requires.known f.here c.loop-v-test.false, path_short z c.args.post)
