-- `segments_size` meets its contract. The loop's invariant: the first i segments take `size` bytes. Assumes nothing.
use Rattle.net.specs.Ready.{segments_in}
use Rattle.writing.proofs.Sizes.{SizedTo}
use Rattle.writing.proofs.segments_size.Given as goal

abbrev pub invariant-loop-i : goal.invariant-loop-i
invariant-loop-i l = SizedTo (segments_in l.segments) l.size l.i
