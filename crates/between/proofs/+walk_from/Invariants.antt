-- `walk_from` calls itself with a smaller `left`. The loop's invariant is `Along`: the notes are those of the legs so
-- far, and c is the next child. Its measure is how far c's segment is from the last one.
use Rattle.std.proofs.Common.{◌-◌, length}
use Rattle.net.specs.Walk.{Given}
use Rattle.between.proofs.Turns.{Looping, Along, ahead}
use Rattle.between.proofs.+walk_from.Given as goal

abbrev pub decreases-walk_from : goal.decreases-walk_from
decreases-walk_from l = l.left

abbrev pub invariant-loop-c : goal.invariant-loop-c
invariant-loop-c l = (g : Given)
    → Looping g (l.left - 1) l.v l.on.walked.now l.on.first.now l.on.after.now l.on.limits.now l.on.lengths.now l.on.shortest.now l.on.up.now l.on.dist.now l.initial.d
    l.initial.entries l.initial.laid
    → Along g (length l.on.first.now) (l.left - 1) l.v l.on.shortest.now l.on.up.now l.on.dist.now l.initial.d l.initial.entries l.initial.laid l.c
    l.d l.entries l.laid

abbrev pub decreases-loop-c : goal.decreases-loop-c
decreases-loop-c l = ahead (length l.on.lengths.now) l.on.walked.now l.c
