-- `corner` meets its contract: a leg that is taken is at most 1,048,575, so the sum of two fits. Assumes nothing.
use mathlib.Core.Path.{sym, ◌∙◌}
use native.Mathlib.Omega.{arith}
use Rattle.drawn.proofs.Lengths.{leg_most}
use Rattle.drawn.proofs.corner.Goals as goal

pub overflow_add-sum : goal.overflow_add-sum
overflow_add-sum c =
    let a = leg_most _ c.args.x c.in_ok-leg_of.field-0 (sym c.leg_of.ensures ∙ c.in_ok-leg_of.was) in
    let b = leg_most _ c.args.y c.in_ok-sum.field-0 (sym c.leg_of-2.ensures ∙ c.in_ok-sum.was) in
    omega arith
