-- `sound` meets its contract: the lists cut to their count stand for the same segments. Assumes nothing.
use mathlib.Core.Path.{refl, sym}
use Rattle.net.proofs.Ready.{cut_level, cut_same, ready_cut}
use Rattle.checks.proofs.sound.Goals as goal

pub slice_bounds-segments-end : goal.slice_bounds-segments-end
slice_bounds-segments-end c = let s = c.args.net.segments in sym (cut_level s.a.now s.b.now s.lengths.now c.segment_count-count.ensures.counted).0

pub slice_bounds-segments-end-2 : goal.slice_bounds-segments-end-2
slice_bounds-segments-end-2 c = let s = c.args.net.segments in sym (cut_level s.a.now s.b.now s.lengths.now c.segment_count-count.ensures.counted).1

pub slice_bounds-segments-end-3 : goal.slice_bounds-segments-end-3
slice_bounds-segments-end-3 c = let s = c.args.net.segments in sym (cut_level s.a.now s.b.now s.lengths.now c.segment_count-count.ensures.counted).2

pub invariant_of-result : goal.invariant_of-result
invariant_of-result c = let n = c.args.net in record {
  sound = ready_cut n.head n.own.p.now n.own.q.now n.segments.a.now n.segments.b.now n.segments.lengths.now c.segment_count-count.ensures.counted c.check.ensures.checked c.in_ok-check.was;
}

pub returns-clause-same : goal.returns-clause-same
returns-clause-same c = let s = c.args.net.segments in (refl, refl, cut_same s.a.now s.b.now s.lengths.now c.segment_count-count.ensures.counted)
