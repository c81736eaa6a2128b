-- `check_ratio` meets its contract: each way out is a rule of 3. Assumes nothing.
use mathlib.Core.Path.{◌∙◌}
use mathlib.Core.Logic.{inl, inr}
use native.Mathlib.Omega.{arith}
use Rattle.net.proofs.Faults.{ratio_first}
use Rattle.net.specs.Rules.{three_of, nothing}
use Rattle.net.proofs.Checks.{refused_by, sound_by}
use Rattle.checks.proofs.check_ratio.Goals as goal
use Rattle.checks.proofs.check_ratio.Goals.{then-q-eq0-via-then-q-eq0, then-q-eq0-via-else-q-eq0+then-p-gt-MOST_RATIO, then-q-eq0-via-else-q-eq0+else-p-gt-MOST_RATIO+then-q-gt-MOST_RATIO}

pub returns-then-q-eq0 : goal.returns-then-q-eq0
returns-then-q-eq0 c = record {
  checked = c.refuse.ensures.refused ∙ refused_by (ratio_first _ _ (three_of (elim c.then-q-eq0.branch [
    | then-q-eq0-via-then-q-eq0 w ↦ inl (omega (arith, w.if-q-eq0.true))
    | then-q-eq0-via-else-q-eq0+then-p-gt-MOST_RATIO w ↦ inr (inl w.if-p-gt-MOST_RATIO.true)
    | then-q-eq0-via-else-q-eq0+else-p-gt-MOST_RATIO+then-q-gt-MOST_RATIO w ↦ inr (inr (omega (arith, w.if-q-gt-MOST_RATIO.true)))
  ])));
}

pub returns : goal.returns
returns c = record { checked = sound_by (ratio_first _ _ (nothing (record { some_q = omega arith; small_p = omega arith; small_q = omega arith }))) }
