-- `third_tree` meets its contract: the ratios are listed, and one call walks by them over the least lengths and the two other trees of the net. Assumes nothing.
use Rattle.std.proofs.Common.{refl, sym, ◌∙◌, arith, length-take}
use Rattle.net.proofs.Own.{ratios_count}
use Rattle.net.proofs.Ready.{ready_posts}
use Rattle.trees.proofs.Ready.{dist_long, walkable_at, third_at}
use Rattle.trees.proofs.third_tree.Goals as goal

pub put_numbers-requires : goal.put_numbers-requires
put_numbers-requires c = let n = c.args.net in
    (omega (arith, n.rated, ratios_count n.lists.own.p.now n.lists.own.q.now), simp length-take (omega (arith, ready_posts n.sound)))

pub put_numbers-requires-2 : goal.put_numbers-requires-2
put_numbers-requires-2 c = let n = c.args.net in
    (omega (arith, n.rated, ratios_count n.lists.own.p.now n.lists.own.q.now), simp length-take (omega (arith, ready_posts n.sound)))

pub third_tree-requires : goal.third_tree-requires
third_tree-requires c = let n = c.args.net in
    (walkable_at n.sound refl c.requires.worked.0 n.rated c.put_numbers.ensures c.put_numbers-2.ensures, c.requires.tree_value ∙ sym (dist_long n.sound refl c.requires.worked.0))

pub returns : goal.returns
returns c = let n = c.args.net in
    let z = third_at n.sound refl c.requires.worked.0 n.rated c.put_numbers.ensures c.put_numbers-2.ensures c.requires.worked.1 c.third_tree.ensures.walked in record { value = z.0; tree_after = z.1 }
