-- `lowest_other` meets its contract: no post that the loop passed has another ratio (`NoneOther`). Assumes nothing.
use mathlib.Core.Path.{sym, ◌∙◌}
use native.Mathlib.Omega.{arith}
use Rattle.net.specs.Ready.{ratios_in}
use Rattle.moves.proofs.Tests.{one_more}
use Rattle.moves.proofs.lowest_other.Goals as goal

pub loop-post-init : goal.loop-post-init
loop-post-init c = λ v l. absurd (omega arith)

pub returns-then-other_at : goal.returns-then-other_at
returns-then-other_at c = record { is_post = omega arith; none_below = c.loop-post.invariant; is_other = sym c.other_at.ensures ∙ c.if-other_at.true }

pub loop-post-preserved : goal.loop-post-preserved
loop-post-preserved c = one_more c.args.head (ratios_in c.args.own) c.loop-post.invariant (sym c.other_at.ensures ∙ c.if-other_at.false)

pub returns : goal.returns
returns c = λ v l. c.loop-post.invariant v (omega arith)
