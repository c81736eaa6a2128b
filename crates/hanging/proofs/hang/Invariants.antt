-- `hanging::hang` meets its contract: at the head of the loop each entry is the lowest of the segments looked at that fits (`Hanging`).
use Rattle.hanging.proofs.Hanging.{Hanging}
use Rattle.hanging.proofs.hang.Given as goal

abbrev pub invariant-loop-i : goal.invariant-loop-i
invariant-loop-i l = Hanging l.segments.a.now l.segments.b.now l.segments.lengths.now l.present l.posts l.dist l.i l.initial.tree l.tree
