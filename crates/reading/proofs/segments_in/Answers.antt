-- `segments_in` meets its contract: each turn of the loop, and what is read after it, is a law of Stored. Assumes nothing.
use Prim.Native.Nat.{ℕ}
use mathlib.Core.List.{List}
use native.Mathlib.Omega.{arith}
use Rattle.net.proofs.Checks.{passed_on}
use Rattle.net.specs.declared.Segment.{Segment}
use Rattle.numbers.specs.declared.reader.Reader.{Reader}
use Rattle.reading.specs.Reading.{segment}
use Rattle.reading.proofs.Carried.{stops, steps, hands_on}
use Rattle.reading.proofs.Stored.{one_more, one_stops, all_read, all_stored, none_stored}
use Rattle.reading.proofs.segments_in.Goals as goal

pub returns-in_err-segment-clause-answers : goal.returns-in_err-segment-clause-answers
returns-in_err-segment-clause-answers c =
    let t = c.loop-i.invariant in
    let z = stops (λ (l : List ℕ). segment l c.args.posts c.loop-i.i) c.args.start c.loop-i.r t.same _ c.segment_at.ensures c.in_err-segment.was in
    rw (one_stops _ _ t c.args.count (omega arith) z) (passed_on c.from_residual.ensures.1)

pub returns-in_err-segment-clause-stored : goal.returns-in_err-segment-clause-stored
returns-in_err-segment-clause-stored c =
    let t = c.loop-i.invariant in
    let z = stops (λ (l : List ℕ). segment l c.args.posts c.loop-i.i) c.args.start c.loop-i.r t.same _ c.segment_at.ensures c.in_err-segment.was in
    none_stored _ _ _ (one_stops _ _ t c.args.count (omega arith) z)

pub loop-i-preserved : goal.loop-i-preserved
loop-i-preserved c =
    let t = c.loop-i.invariant in
    let z = steps c.args.start c.loop-i.r t.same (λ (l : List ℕ). segment l c.args.posts c.loop-i.i) c.segment_at.ensures c.in_ok-segment.was in
    one_more _ _ t (omega (arith, c.requires.2)) z

pub returns-clause-answers : goal.returns-clause-answers
returns-clause-answers c =
    let t = c.loop-i.invariant in
    hands_on (λ (ss : List Segment) (r : Reader). r) c.args.start (all_read _ _ t (omega arith)) t.same

pub returns-clause-stored : goal.returns-clause-stored
returns-clause-stored c = all_stored _ _ c.loop-i.invariant (omega arith)
