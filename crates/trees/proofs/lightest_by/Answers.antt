-- `lightest_by` meets its contract: at the head of the loop every reached post has its entry of the lightest tree (`Hanging`), at its end all have (`hung_all`). The
-- queue never has more posts than there are. Assumes nothing.
use Rattle.std.proofs.Common.{refl, sym, ◌∙◌, arith}
use Rattle.net.proofs.Ready.{ready_posts}
use Rattle.shortest.proofs.Running.{all_down}
use Rattle.trees.proofs.Ready.{ready_sortable, fit_at, marks_at, lightest_at}
use Rattle.trees.proofs.Along.{reaching_few}
use Rattle.trees.proofs.Walk.{held, hanging_none, hanging_more, hung_all}
use Rattle.trees.proofs.lightest_by.Goals as goal

pub belonging-requires : goal.belonging-requires
belonging-requires c = let r = c.requires in
    record {
      fit = fit_at r.plain r.posts_are r.all_there.0;
      posts_le_most_posts = (omega (arith, ready_posts r.plain), ready_sortable r.plain, omega (arith, r.plain.lengths_level));
    }

pub begin-requires-clause-none_reached : goal.begin-requires-clause-none_reached
begin-requires-clause-none_reached c = all_down 256

pub loop-k-init : goal.loop-k-init
loop-k-init c = let r = c.requires in
    rw c.begin.ensures.one
    (hanging_none (held r.plain r.posts_are refl) (marks_at r.plain r.posts_are r.all_there.0 c.belonging.ensures.marked)
    (rw (r.all_there.2 ∙ sym r.posts_are) at c.begin.ensures.begun))

pub bounds-walk-k : goal.bounds-walk-k
bounds-walk-k c = let i = c.loop-k.invariant in omega (arith, c.loop-k-test.true, reaching_few i.reaching, i.reaching.places)

pub offset_bounds-walk-k : goal.offset_bounds-walk-k
offset_bounds-walk-k c = let i = c.loop-k.invariant in omega (arith, c.loop-k-test.true, reaching_few i.reaching, i.reaching.few)

pub reach_from-requires-clause-ends : goal.reach_from-requires-clause-ends
reach_from-requires-clause-ends c = let r = c.requires in
    ((held r.plain r.posts_are refl).ends, c.belonging.auto.marks ∙ r.all_there.1)

pub overflow_add-k : goal.overflow_add-k
overflow_add-k c = let i = c.loop-k.invariant in omega (arith, c.loop-k-test.true, reaching_few i.reaching, i.reaching.few)

pub loop-k-smaller : goal.loop-k-smaller
loop-k-smaller c = omega (arith, c.loop-k-test.true, reaching_few c.loop-k.invariant.reaching)

pub loop-k-preserved : goal.loop-k-preserved
loop-k-preserved c = let r = c.requires in
    let f = c.reach_from.ensures in
    hanging_more (held r.plain r.posts_are refl) (marks_at r.plain r.posts_are r.all_there.0 c.belonging.ensures.marked) c.loop-k.invariant (c.belonging.auto.marks ∙ r.all_there.1)
    c.loop-k-test.true c.from-u.ensures
    f.grows f.still_reaching f.crossed

pub returns : goal.returns
returns c = let r = c.requires in
    lightest_at r.plain r.posts_are refl
    (hung_all (held r.plain r.posts_are refl) (marks_at r.plain r.posts_are r.all_there.0 c.belonging.ensures.marked) c.loop-k.invariant (c.belonging.auto.marks ∙ r.all_there.1) c.loop-k-test.false)
