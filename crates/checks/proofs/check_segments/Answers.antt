use Rattle.net.proofs.Segments.{in_each}
use Rattle.checks.proofs.Ways.{sound_none, sound_more, sound_all, refused_at, segments_in_turn}
use mathlib.Core.Path.{◌∙◌}
use native.Mathlib.Omega.{arith}
use Rattle.net.proofs.Checks.{passed_on}
use Rattle.checks.proofs.check_segments.Goals as goal

pub loop-i-init : goal.loop-i-init
loop-i-init c = sound_none

pub segment_at-requires : goal.segment_at-requires
segment_at-requires c = let s = c.args.segments in in_each s.a.now s.b.now s.lengths.now c.loop-i.i (omega (arith, c.segment_count-i-end.ensures.counted))

pub returns-in_err-check_segment : goal.returns-in_err-check_segment
returns-in_err-check_segment c = passed_on c.from_residual.ensures.1 ∙ segments_in_turn _ _
    (refused_at c.loop-i.invariant (omega (arith, c.segment_count-i-end.ensures.counted)) (rw c.segment_at.ensures.fetched at c.check_segment.ensures.checked) c.in_err-check_segment.was)

pub loop-i-preserved : goal.loop-i-preserved
loop-i-preserved c = sound_more c.loop-i.invariant (omega (arith, c.segment_count-i-end.ensures.counted)) (rw c.segment_at.ensures.fetched at c.check_segment.ensures.checked) c.in_ok-check_segment.was

pub returns : goal.returns
returns c = segments_in_turn _ _ (sound_all c.loop-i.invariant (omega (arith, c.segment_count-i-end.ensures.counted)))
