-- `check_numbers` meets its contract: each way out is a rule of 5 to 7. Assumes nothing.
use mathlib.Core.Path.{◌∙◌}
use mathlib.Core.Logic.{inl, inr}
use native.Mathlib.Omega.{arith}
use Rattle.net.proofs.Faults.{segment_first}
use Rattle.net.specs.Rules.{five, six, seven, nothing}
use Rattle.net.proofs.Checks.{refused_by, sound_by}
use Rattle.checks.proofs.check_numbers.Goals as goal
use Rattle.checks.proofs.check_numbers.Goals.{then-a-posts-via-then-a-posts, then-a-posts-via-else-a-posts+then-b-posts}
use Rattle.checks.proofs.check_numbers.Goals.{then-length-eq0-via-then-length-eq0, then-length-eq0-via-else-length-eq0+then-length-gt-LONGEST}

pub returns-then-a-posts : goal.returns-then-a-posts
returns-then-a-posts c = record { checked = c.refuse.ensures.refused ∙ refused_by (segment_first _ _ _ (five (elim c.then-a-posts.branch [ then-a-posts-via-then-a-posts w ↦ inl w.if-a-posts.true | then-a-posts-via-else-a-posts+then-b-posts w ↦ inr w.if-b-posts.true ]))) }

pub returns-then-a-b : goal.returns-then-a-b
returns-then-a-b c = record { checked = c.refuse-then-a-b.ensures.refused ∙ refused_by (segment_first _ _ _ (six (record { a_in = omega arith; b_in = omega arith }) c.if-a-b.true)) }

pub returns-then-length-eq0 : goal.returns-then-length-eq0
returns-then-length-eq0 c = record { checked = c.refuse-then-length-eq0.ensures.refused ∙ refused_by (segment_first _ _ _ (seven (record { a_in = omega arith; b_in = omega arith }) c.if-a-b.false (elim c.then-length-eq0.branch [ then-length-eq0-via-then-length-eq0 w ↦ inl w.if-length-eq0.true | then-length-eq0-via-else-length-eq0+then-length-gt-LONGEST w ↦ inr w.if-length-gt-LONGEST.true ]))) }

pub returns : goal.returns
returns c = record {
  checked = sound_by (segment_first _ _ _ (nothing (record {
    ends_sound = record { a_in = omega arith; b_in = omega arith };
    apart = c.if-a-b.false;
    some_length = omega arith;
    not_too_long = omega arith;
  })));
}
