-- `lay_ratios` meets its contract: two lists of numbers are laid over two others, post by post, the source's place left out. Assumes nothing.
use native.Mathlib.Omega.{arith}
use mathlib.Core.Path.{ap}
use Rattle.net.specs.Net.{Ratio}
use Rattle.net.proofs.Own.{ratios_count, ratio_fields}
use Rattle.reading.proofs.Laid.{laying_none, in_second, laying_more, laying_source, laying_all}
use Rattle.reading.proofs.lay_ratios.Goals as goal
use Rattle.reading.proofs.lay_ratios.Goals.{then-post-head, else-post-head}

pub loop-post-init : goal.loop-post-init
loop-post-init c =
    let n = ratios_count c.args.own.p.now c.args.own.q.now in
    (laying_none _ _ _ _ (omega arith) c.requires.2, laying_none _ _ _ _ (omega arith) c.requires.3)

pub loop-post-preserved : goal.loop-post-preserved
loop-post-preserved c =
    let o = c.args.own in
    let k = rw c.own_count-post-end.ensures.counted at c.loop-post-test.true in
    let j = (in_second _ _ _ c.loop-post.invariant.0 k).1 in
    elim c.if-post-head.branch [
      | then-post-head w ↦
          let f = ratio_fields o.p.now o.q.now c.loop-post.post (omega (arith, c.requires.0)) (omega (arith, c.requires.1)) in (
            rw w.p-is (laying_more _ _ _ c.loop-post.invariant.0 k (λ e. omega arith) _ (ap (λ (o : Ratio). o.p) f)),
            rw w.q-is (laying_more _ _ _ c.loop-post.invariant.1 k (λ e. omega arith) _ (ap (λ (o : Ratio). o.q) f)),
          )
      | else-post-head w ↦ (
        rw w.p-is (laying_source _ _ _ c.loop-post.invariant.0 k (omega arith)),
        rw w.q-is (laying_source _ _ _ c.loop-post.invariant.1 k (omega arith)),
      )
    ]

pub returns : goal.returns
returns c =
    let k = rw c.own_count-post-end.ensures.counted at c.loop-post-test.false in
    record { p_laid = laying_all _ _ _ c.loop-post.invariant.0 k; q_laid = laying_all _ _ _ c.loop-post.invariant.1 k }
