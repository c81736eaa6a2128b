-- `check` meets its contract: the head, then the posts' own ratios, then the segments. Assumes nothing.
use mathlib.Core.Path.{◌∙◌}
use Rattle.net.proofs.Checks.{few_segments, passed_on}
use Rattle.checks.proofs.Ways.{head_refused, own_refused, own_passed}
use Rattle.checks.proofs.check.Goals as goal

pub returns-in_err-check_head : goal.returns-in_err-check_head
returns-in_err-check_head c = record { checked = passed_on c.from_residual.ensures.1 ∙ head_refused _ _ _ c.segment_count.ensures.counted c.check_head.ensures.checked c.in_err-check_head.was }

pub returns-in_err-check_own : goal.returns-in_err-check_own
returns-in_err-check_own c = record {
  checked = passed_on c.from_residual-in_err-check_own.ensures.1 ∙ own_refused _ _ _ c.segment_count.ensures.counted c.check_head.ensures.checked c.in_ok-check_head.was c.check_own.ensures.checked c.in_err-check_own.was;
}

pub check_segments-requires : goal.check_segments-requires
check_segments-requires c = rw (← c.segment_count.ensures.counted) (few_segments _ _ c.check_head.ensures.checked c.in_ok-check_head.was)

pub returns : goal.returns
returns c = record {
  checked = own_passed _ _ _ c.segment_count.ensures.counted c.check_head.ensures.checked c.in_ok-check_head.was c.check_own.ensures.checked c.in_ok-check_own.was c.check_segments.ensures;
}
