-- `link_children` meets its contract. The loop's invariant: the links by the segments from number i on are made. Assumes nothing.
use Rattle.std.proofs.Common.{length}
use Rattle.between.specs.Children.{Indexed}
use Rattle.between.proofs.link_children.Given as goal

abbrev pub invariant-loop-i : goal.invariant-loop-i
invariant-loop-i l = Indexed l.segments.a.now l.segments.b.now l.walked (length l.initial.first) l.i l.first l.after
