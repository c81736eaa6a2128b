-- `hanging::path_of` meets its contract: at the head of the loop what was climbed and what is left make the path (`Climbing`).
use mathlib.Core.Path.{◌≡◌, sym, ◌∙◌}
use Prim.Native.Nat.{suc, ◌+◌, ◌-◌}
use native.Mathlib.Omega.{arith}
use Rattle.hanging.proofs.Measures.{climbing_step, climbing_top, climbing_all}
use Rattle.hanging.proofs.path_of.Goals as goal

pub returns-then-e : goal.returns-then-e
returns-then-e c = record { measured = climbing_top c.loop.invariant (sym c.at-e.ensures.read ∙ c.if-e.true) }

pub loop-preserved : goal.loop-preserved
loop-preserved c =
    let k : c.args.posts - c.loop.counter ≡ suc (c.args.posts - (c.loop.counter + 1)) = omega arith in
    let r = c.loop.invariant in
    climbing_step c.requires.posts_le_most_posts.2 c.requires.posts_le_most_posts.3 c.requires.short (rw k at r)
    (c.from-i.ensures ∙ c.at-e.ensures.read) (λ e. c.if-e.false (sym c.from-i.ensures ∙ e)) c.at-total.ensures.read c.at.ensures.read c.at-in-loop.ensures.read c.across-v.ensures

pub returns : goal.returns
returns c = record { measured = let e : c.args.posts - c.loop.counter ≡ 0 = omega arith in let r = c.loop.invariant in climbing_all (rw e at r) }
