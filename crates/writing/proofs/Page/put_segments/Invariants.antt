-- `put_segments` meets its contract. The loop's invariant: the first i segments are put on the page. Assumes nothing.
use Rattle.net.specs.Ready.{segments_in}
use Rattle.writing.proofs.Puts.{PutTo}
use Rattle.writing.proofs.Page.put_segments.Given as goal

abbrev pub invariant-loop-i : goal.invariant-loop-i
invariant-loop-i l = PutTo (segments_in l.segments) l.i l.initial.self l.self
