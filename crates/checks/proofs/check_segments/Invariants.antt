use lib.ListN.{length as size}
use Rattle.net.specs.Ready.{segments_in}
use Rattle.checks.proofs.Ways.{SoundBelow, segment_table}
use Rattle.checks.proofs.check_segments.Given as goal

abbrev pub invariant-loop-i : goal.invariant-loop-i
invariant-loop-i l = SoundBelow (segment_table l.posts (segments_in l.segments)) (size (segments_in l.segments)) l.i
