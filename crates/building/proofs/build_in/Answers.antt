-- `build_in` meets its contract: a way out for 9, and one for the trees that are put into the lists and measured. Assumes nothing.
use mathlib.Core.Path.{ap, ◌∙◌}
use Rattle.std.specs.Prelude.{Ok, Err}
use Rattle.net.proofs.Checks.{passed_on}
use Rattle.building.proofs.Ways.{leaves_apart, trees_of, leaves_joined}
use Rattle.building.proofs.build_in.Goals as goal

pub returns-in_err-laid : goal.returns-in_err-laid
returns-in_err-laid c =
    let n = c.args.net.lists in
    let y = c.requires.posts_bound in
    let z = c.all_trees.ensures.prepared.apart c.in_err-laid.was in
    leaves_apart n.head n.own.p.now n.own.q.now n.segments.a.now n.segments.b.now n.segments.lengths.now c.args.lightest.now c.args.shortest.now c.args.between.now c.args.net.sound y.0 y.1 y.2 c.args.net.rated
    z.2.nine (passed_on c.from_residual.ensures.1 ∙ ap Err z.1)

pub answer_for-requires : goal.answer_for-requires
answer_for-requires c =
    let n = c.args.net.lists in
    let y = c.requires.posts_bound in
    trees_of n.head n.own.p.now n.own.q.now n.segments.a.now n.segments.b.now n.segments.lengths.now c.args.lightest.now c.args.shortest.now c.args.between.now c.args.net.sound y.0 y.1 y.2 c.args.net.rated
    (c.all_trees.ensures.prepared.joined c.in_ok-laid.was)

pub returns : goal.returns
returns c =
    let n = c.args.net.lists in
    let x = c.requires.worked_in in
    let y = c.requires.posts_bound in
    leaves_joined n.head n.own.p.now n.own.q.now n.segments.a.now n.segments.b.now n.segments.lengths.now c.args.lightest.now c.args.shortest.now c.args.between.now c.args.net.sound y.0 y.1 y.2 c.args.net.rated
    (c.all_trees.ensures.prepared.joined c.in_ok-laid.was) (ap Ok c.answer_for.ensures) (c.all_trees.auto.light ∙ x.1) (c.all_trees.auto.short ∙ x.2) (c.all_trees.auto.third ∙ x.3)
    (rw c.copy_from_slice.ensures.after, rw c.copy_from_slice-2.ensures.after, rw c.copy_from_slice-3.ensures.after)
