-- `all_trees` meets its contract: the lowest post without a least length is that of 9; where there is none, the other two trees follow. Assumes nothing.
use Rattle.std.proofs.Common.{arith}
use Rattle.net.proofs.Ready.{ready_posts, ready_few}
use Rattle.trees.proofs.Ratios.{ready_plain, plain_lightest}
use Rattle.trees.proofs.Ready.{ready_ends, worked_at}
use Rattle.trees.proofs.Preparing.{prepares_apart, prepares_joined}
use Rattle.trees.proofs.all_trees.Goals as goal

pub index-requires : goal.index-requires
index-requires c = let r = c.args.net.sound in
    (omega (arith, ready_posts r), omega (arith, ready_few r), ready_few r)

pub shortest_tree-requires-clause-ends : goal.shortest_tree-requires-clause-ends
shortest_tree-requires-clause-ends c = ready_ends c.args.net.sound

pub returns-in-Some : goal.returns-in-Some
returns-in-Some c = let r = c.args.net.sound in
    let z = c.requires.dist_value in
    let w = worked_at r _ _ z.0 z.2 c.shortest_tree.ensures.least_lengths c.shortest_tree.ensures.hung in
    record { prepared = rw c.refuse.ensures.refused (prepares_apart r w c.in-Some.v c.in-Some.ensures.lowest _ _) }

pub lightest_tree-requires-clause-plain : goal.lightest_tree-requires-clause-plain
lightest_tree-requires-clause-plain c = ready_plain c.args.net.sound

pub third_tree-requires-clause-worked : goal.third_tree-requires-clause-worked
third_tree-requires-clause-worked c = let r = c.args.net.sound in
    let l = c.args.net.lists in
    let z = c.requires.dist_value in (
      worked_at r _ _ z.0 z.2 c.shortest_tree.ensures.least_lengths c.shortest_tree.ensures.hung,
      plain_lightest l.head l.own.p.now l.own.q.now l.segments.a.now l.segments.b.now l.segments.lengths.now c.lightest_tree.ensures,
    )

pub returns-in-None : goal.returns-in-None
returns-in-None c = let r = c.args.net.sound in
    let l = c.args.net.lists in
    let z = c.requires.dist_value in
    let w = worked_at r _ _ z.0 z.2 c.shortest_tree.ensures.least_lengths c.shortest_tree.ensures.hung in
    record {
      prepared = prepares_joined r w c.in-None.ensures.lowest _ _
          (plain_lightest l.head l.own.p.now l.own.q.now l.segments.a.now l.segments.b.now l.segments.lengths.now c.lightest_tree.ensures)
          (c.third_tree.ensures.value, c.third_tree.ensures.tree_after);
    }
