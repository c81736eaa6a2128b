-- `shortest::shortest_tree` meets its contract: the two steps over all segments leave D and the shortest tree (`shortest_is`).
use native.Mathlib.Omega.{arith}
use Rattle.shortest.proofs.Trees.{all_sides, notes_low, shortest_is}
use Rattle.shortest.proofs.shortest_tree.Goals as goal

pub hang-requires-clause-low : goal.hang-requires-clause-low
hang-requires-clause-low c =
    let p = c.requires in
    let q = p.source_lt_posts in
    let d = c.search in
    notes_low (all_sides _ p.ends q.2) _ q.0 _ _ d.ensures.least_lengths (omega (arith, q.3, d.auto.dist))

pub returns : goal.returns
returns c =
    let p = c.requires in
    let q = p.source_lt_posts in
    let z = shortest_is _ p.ends q.2 _ q.0 c.args.dist.now c.args.tree.now c.search.ensures.least_lengths c.hang.ensures.hung in
    record { least_lengths = z.0; hung = z.1 }
