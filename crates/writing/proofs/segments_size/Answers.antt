-- `segments_size` meets its contract. The loop's invariant: the first i segments take `size` bytes. Assumes nothing.
use native.Mathlib.Omega.{arith}
use Rattle.net.proofs.Segments.{in_each}
use Rattle.writing.proofs.Sizes.{begin_size, size_next}
use Rattle.writing.proofs.segments_size.Goals as goal

pub loop-i-init : goal.loop-i-init
loop-i-init c = begin_size _

pub segment_at-requires : goal.segment_at-requires
segment_at-requires c = let s = c.args.net.lists.segments in in_each s.a.now s.b.now s.lengths.now c.loop-i.i (omega (arith, c.segment_count-i-end.ensures.counted))

pub loop-i-preserved : goal.loop-i-preserved
loop-i-preserved c = size_next c.loop-i.invariant (omega (arith, c.segment_count-i-end.ensures.counted)) c.segment_at.ensures.fetched c.segment_size-size.ensures.0 c.segment_size-size.ensures.1
