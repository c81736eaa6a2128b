-- `own_in` meets its contract: each turn of the loop, and what is read after it, is a law of Owned. Assumes nothing.
use native.Mathlib.Omega.{arith}
use Rattle.net.specs.Net.{Ratio}
use Rattle.net.proofs.Checks.{passed_on}
use Rattle.numbers.specs.declared.reader.Reader.{Reader}
use Rattle.reading.specs.Reading.{ratio}
use Rattle.reading.proofs.Carried.{stops, ratio_steps, hands_on}
use Rattle.reading.proofs.Owned.{at_the_source, one_more, one_stops, all_read, all_stored, none_stored}
use mathlib.Core.List.{List}
use Prim.Native.Nat.{ℕ}
use Rattle.reading.proofs.own_in.Goals as goal

pub loop-post-preserved-then-post-source : goal.loop-post-preserved-then-post-source
loop-post-preserved-then-post-source c = at_the_source _ _ c.loop-post.invariant c.if-post-source.true

pub returns-in_err-x-clause-answers : goal.returns-in_err-x-clause-answers
returns-in_err-x-clause-answers c =
    let t = c.loop-post.invariant in
    let z = stops (λ (l : List ℕ). ratio l c.loop-post.post) c.args.start c.loop-post.r t.same _ c.ratio_at.ensures c.in_err-x.was in
    rw (one_stops _ _ t c.if-post-source.false c.args.count (omega arith) z) (passed_on c.from_residual.ensures.1)

pub returns-in_err-x-clause-stored : goal.returns-in_err-x-clause-stored
returns-in_err-x-clause-stored c =
    let t = c.loop-post.invariant in
    let z = stops (λ (l : List ℕ). ratio l c.loop-post.post) c.args.start c.loop-post.r t.same _ c.ratio_at.ensures c.in_err-x.was in
    none_stored _ _ (one_stops _ _ t c.if-post-source.false c.args.count (omega arith) z)

pub loop-post-preserved : goal.loop-post-preserved
loop-post-preserved c =
    let t = c.loop-post.invariant in
    let z = ratio_steps c.args.start c.loop-post.r t.same (λ (l : List ℕ). ratio l c.loop-post.post) c.ratio_at.ensures c.in_ok-x.was in
    one_more _ _ t c.if-post-source.false (omega (arith, c.requires.1)) z

pub returns-clause-answers : goal.returns-clause-answers
returns-clause-answers c =
    let t = c.loop-post.invariant in
    hands_on (λ (own : List Ratio) (r : Reader). r) c.args.start (all_read _ _ t (omega arith)) t.same

pub returns-clause-stored : goal.returns-clause-stored
returns-clause-stored c = all_stored _ _ c.loop-post.invariant (omega arith)
