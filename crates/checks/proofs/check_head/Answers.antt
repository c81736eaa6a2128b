-- `check_head` meets its contract: each way out is a rule of 1 to 4. Assumes nothing.
use mathlib.Core.Path.{◌∙◌}
use mathlib.Core.Logic.{inl, inr}
use native.Mathlib.Omega.{arith}
use Rattle.net.proofs.Faults.{head_first}
use Rattle.net.specs.Rules.{one, two, four, nothing}
use Rattle.net.proofs.Checks.{refused_by, sound_by, passed_on}
use Rattle.checks.proofs.Ways.{house_refused, head_in}
use Rattle.checks.proofs.check_head.Goals as goal
use Rattle.checks.proofs.check_head.Goals.{then-head-eq0-via-then-head-eq0, then-head-eq0-via-else-head-eq0+then-head-gt-MOST_POSTS}

pub returns-then-head-eq0 : goal.returns-then-head-eq0
returns-then-head-eq0 c = record { checked = c.refuse.ensures.refused ∙ refused_by (head_first _ _ (one (elim c.then-head-eq0.branch [ then-head-eq0-via-then-head-eq0 w ↦ inl w.if-head-eq0.true | then-head-eq0-via-else-head-eq0+then-head-gt-MOST_POSTS w ↦ inr (omega (arith, w.if-head-gt-MOST_POSTS.true)) ]))) }

pub returns-then-head : goal.returns-then-head
returns-then-head c = record { checked = c.refuse-then-head.ensures.refused ∙ refused_by (head_first _ _ (two (record { some_posts = omega arith; few_posts = omega arith }) c.if-head.true)) }

pub returns-in_err-check_ratio : goal.returns-in_err-check_ratio
returns-in_err-check_ratio c = record {
  checked = passed_on c.from_residual.ensures.1 ∙ house_refused _ (record { some_posts = omega arith; few_posts = omega arith }) (omega arith) c.check_ratio.ensures.checked _ c.in_err-check_ratio.was;
}

pub returns-then-count-gt-MOST_SEGMENTS : goal.returns-then-count-gt-MOST_SEGMENTS
returns-then-count-gt-MOST_SEGMENTS c = record {
  checked = c.refuse-then-count-gt-MOST_SEGMENTS.ensures.refused ∙ refused_by (head_first _ _ (four (head_in _ (record { some_posts = omega arith; few_posts = omega arith }) (omega arith) c.check_ratio.ensures.checked c.in_ok-check_ratio.was) c.if-count-gt-MOST_SEGMENTS.true));
}

pub returns : goal.returns
returns c = record {
  checked = sound_by (head_first _ _ (nothing (head_in _ (record { some_posts = omega arith; few_posts = omega arith }) (omega arith) c.check_ratio.ensures.checked c.in_ok-check_ratio.was) (omega arith)));
}
