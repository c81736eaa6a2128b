-- `put_segments` meets its contract. The loop's invariant: the first i segments are put on the page. Assumes nothing.
use native.Mathlib.Omega.{arith}
use Rattle.net.proofs.Segments.{in_each}
use Rattle.writing.proofs.Puts.{begin_put, put_room, put_next, put_all}
use Rattle.writing.proofs.Writes.{segment_small}
use Rattle.writing.proofs.Page.put_segments.Goals as goal

pub loop-i-init : goal.loop-i-init
loop-i-init c = begin_put _ _ c.requires

pub segment_at-requires : goal.segment_at-requires
segment_at-requires c = let s = c.args.net.lists.segments in in_each s.a.now s.b.now s.lengths.now c.loop-i.i (omega (arith, c.segment_count-i-end.ensures.counted))

pub put_segment-requires : goal.put_segment-requires
put_segment-requires c =
    let e = c.segment_at.ensures.fetched in
    (segment_small c.args.net.sound c.loop-i.i (omega (arith, c.segment_count-i-end.ensures.counted)) e, put_room c.loop-i.invariant (omega (arith, c.segment_count-i-end.ensures.counted)) e c.requires)

pub loop-i-preserved : goal.loop-i-preserved
loop-i-preserved c = put_next c.loop-i.invariant (omega (arith, c.segment_count-i-end.ensures.counted)) c.segment_at.ensures.fetched c.put_segment.ensures

pub returns : goal.returns
returns c = put_all c.loop-i.invariant (omega (arith, c.segment_count-i-end.ensures.counted))
