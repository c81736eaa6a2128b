-- `lightest_by` meets its contract: at the head of the loop every reached post has its entry of the lightest tree (`Hanging`), at its end all have (`hung_all`). The
-- queue never has more posts than there are. Assumes nothing.
use Rattle.std.proofs.Common.{◌-◌}
use Rattle.trees.proofs.Walk.{Hanging}
use Rattle.trees.proofs.lightest_by.Given as goal

abbrev pub invariant-loop-k : goal.invariant-loop-k
invariant-loop-k l = let s = l.net.segments in let w = l.walk in
    Hanging l.net.posts l.source s.a.now s.b.now s.lengths.now l.marks l.k w.count w.flags.now w.queue.now l.tree

abbrev pub decreases-loop-k : goal.decreases-loop-k
decreases-loop-k l = l.net.posts - l.k
