-- `shortest::index` meets its contract: at the head of the loop the ends of the segments passed are in their rows (`Indexing`).
use Rattle.shortest.proofs.Rows.{Indexing}
use Rattle.shortest.proofs.index.Given as goal

abbrev pub invariant-loop-i : goal.invariant-loop-i
invariant-loop-i l = Indexing l.posts l.segments.a.now l.segments.b.now l.initial.first l.initial.next l.first l.next l.i
