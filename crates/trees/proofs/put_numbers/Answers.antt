-- `put_numbers` meets its contract: the list is overwritten from the front by the posts' numbers. Assumes nothing.
use Rattle.std.proofs.Common.{arith, sym, ◌∙◌}
use Rattle.net.proofs.Words.{length_tab, tab_at}
use Rattle.net.proofs.Blend.{over_none, over_more}
use Rattle.trees.specs.Ratios.{the_number_for}
use Rattle.trees.proofs.put_numbers.Goals as goal

pub loop-v-init : goal.loop-v-init
loop-v-init c = over_none _ _ (length_tab (the_number_for c.args.head c.args.house c.args.own.now) c.args.head.posts ∙ sym c.requires.1)

pub loop-v-preserved : goal.loop-v-preserved
loop-v-preserved c = over_more c.loop-v.invariant (omega arith) _ (c.number_for.ensures.ruling
    ∙ sym (tab_at (the_number_for c.args.head c.args.house c.args.own.now) c.args.head.posts c.loop-v.v 0 (omega arith)))
