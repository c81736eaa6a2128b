-- What a check's answer says in document 01's terms is what the table gives (`check_says`).
use mathlib.Core.Path.{◌≡◌, refl, ap, ◌∙◌}
use mathlib.Core.List.{List}
use mathlib.Core.Option.{Option, none, some}
use lib.ListN.{length}
use Rattle.net.specs.Net.{Ratio, every, net_with}
use Rattle.net.specs.Refusals.{first, net_lines, checked_of, says_of, check_of}
use Rattle.net.specs.declared.Segment.{Segment}
use Rattle.net.specs.declared.Head.{Head}
use Rattle.net.specs.declared.Refusal.{Refusal}
use Rattle.net.specs.Refusals.{Checked}

-- WHAT AN ANSWER SAYS is what the table gives
pub says_checked : (r : Option Refusal) → says_of (checked_of r) ≡ r
says_checked none = refl
says_checked (some r) = refl

pub check_says : (h : Head) (ratios : List Ratio) (segs : List Segment) {x : Checked} → x ≡ check_of h ratios segs → says_of x ≡ first (net_lines every (length segs) (net_with h ratios segs))
unfolding check_of
check_says h ratios segs e = ap says_of e ∙ says_checked _
