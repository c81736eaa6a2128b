-- `reach_from` meets its contract: where a marked segment leads is reached, or the segment is still on the row (`Rowing`); codes fall. Assumes nothing.
use Rattle.trees.proofs.Along.{Rowing}
use Rattle.trees.proofs.reach_from.Given as goal

abbrev pub invariant-loop-c : goal.invariant-loop-c
invariant-loop-c l = let o = l.initial.walk in let w = l.walk in
    Rowing l.net.posts l.segments.a.now l.segments.b.now l.marks l.net.next.now l.u l.c o.count o.flags.now o.queue.now l.initial.tree w.count w.flags.now w.queue.now l.tree

abbrev pub decreases-loop-c : goal.decreases-loop-c
decreases-loop-c l = l.c
