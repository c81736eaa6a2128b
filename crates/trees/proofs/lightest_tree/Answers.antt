-- `lightest_tree` meets its contract: one call over marks of its own. Assumes nothing.
use lib.ListN.{length-take}
use Rattle.net.proofs.Ready.{ready_few}
use Rattle.trees.proofs.Ready.{all_there}
use native.Mathlib.Omega.{arith}
use Rattle.trees.proofs.lightest_tree.Goals as goal

pub slice_bounds-present-end : goal.slice_bounds-present-end
slice_bounds-present-end c = omega (arith, ready_few c.requires.plain)

pub slice_bounds-lightest_by-end : goal.slice_bounds-lightest_by-end
slice_bounds-lightest_by-end c = simp length-take (omega (arith, ready_few c.requires.plain))

pub slice_bounds-marks-end : goal.slice_bounds-marks-end
slice_bounds-marks-end c = omega (arith, ready_few c.requires.plain)

pub slice_bounds-lightest_by-end-2 : goal.slice_bounds-lightest_by-end-2
slice_bounds-lightest_by-end-2 c = simp length-take (omega (arith, ready_few c.requires.plain))

pub lightest_by-requires : goal.lightest_by-requires
lightest_by-requires c = let few = ready_few c.requires.plain in
    record { plain = c.requires.plain; posts_are = c.requires.posts_are; all_there = (all_there _ few, simp length-take (omega arith), c.requires.tree_value) }
