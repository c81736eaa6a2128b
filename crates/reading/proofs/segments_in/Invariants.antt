-- `segments_in` meets its contract. The loop's invariant says how far the segments are read. Assumes nothing.
use Rattle.reading.proofs.Stored.{Turn}
use Rattle.reading.proofs.segments_in.Given as goal

abbrev pub invariant-loop-i : goal.invariant-loop-i
invariant-loop-i l = Turn l.fn.start l.posts l.r l.i l.a l.b l.lengths
