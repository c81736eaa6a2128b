-- 1 to 4 of a head, 3 of a post's own ratio and 5 to 7 of a segment as the writer and the reader (of `reading`) meet them: net's laws of the three tables, over what `first` gives, and
-- what a check's answer says of its lines.
use Prim.Native.Nat.{ℕ, ◌≤◌}
use mathlib.Core.Path.{◌≡◌, refl, sym}
use mathlib.Core.Option.{Option, none, some}
use native.Mathlib.Omega.{arith}
use Rattle.net.specs.Net.{Ratio, most_segments}
use Rattle.net.specs.Refusals.{first, head_lines, ratio_lines, segment_lines, checked_of}
use Rattle.net.specs.Rules.{HeadSound, RatioSound, SegmentSound, HeadRule, RatioRule, SegmentRule}
use Rattle.net.specs.declared.Segment.{Segment}
use Rattle.net.specs.declared.Head.{Head}
use Rattle.net.specs.declared.Refusal.{Refusal}
use Rattle.net.specs.Refusals.{Checked}
use Rattle.std.specs.Prelude.{Ok, Err}
use Rattle.net.proofs.Tables.{first_of, first_only, first_is}
use Rattle.net.proofs.Faults as F

module _ (h : Head) (m : ℕ) where
  pub head_only : {r : Option Refusal} → HeadRule h m r → first (head_lines h m) ≡ r
  head_only k = sym (first_only (F.head_first h m k))

  pub head_rule : HeadRule h m (first (head_lines h m))
  head_rule = F.head_rule h m (first_of (head_lines h m))

  -- a head that is not refused is sound
  pub head_sound : first (head_lines h m) ≡ none → HeadSound h × (m ≤ most_segments)
  head_sound e = F.head_sound h m (first_is e)

module _ (r : Ratio) (v : ℕ) where
  pub ratio_only : {o : Option Refusal} → RatioRule r v o → first (ratio_lines v r) ≡ o
  ratio_only k = sym (first_only (F.ratio_first r v k))

  pub ratio_rule : RatioRule r v (first (ratio_lines v r))
  ratio_rule = F.ratio_rule r v (first_of (ratio_lines v r))

  -- a ratio that is not refused is sound
  pub ratio_sound : first (ratio_lines v r) ≡ none → RatioSound r
  ratio_sound e = F.ratio_sound r v (first_is e)

module _ (posts : ℕ) (s : Segment) (i : ℕ) where
  pub segment_only : {r : Option Refusal} → SegmentRule posts s i r → first (segment_lines posts s i) ≡ r
  segment_only k = sym (first_only (F.segment_first posts s i k))

  pub segment_rule : SegmentRule posts s i (first (segment_lines posts s i))
  segment_rule = F.segment_rule posts s i (first_of (segment_lines posts s i))

  -- a segment that is not refused is sound
  pub segment_sound : first (segment_lines posts s i) ≡ none → SegmentSound posts s
  segment_sound e = F.segment_sound posts s i (first_is e)

-- what a check's answer says of the lines
pub refused_lines : (o : Option Refusal) (v : Checked) (r : Refusal) → v ≡ checked_of o → v ≡ Err r → o ≡ some r
refused_lines none v r e f = let z : ◌≡◌ {A = ℕ} 0 1 = cc in absurd (omega arith)
refused_lines (some q) v r e f = cc

pub sound_lines : (o : Option Refusal) (v : Checked) → v ≡ checked_of o → v ≡ Ok tt → o ≡ none
sound_lines none v e f = refl
sound_lines (some q) v e f = let z : ◌≡◌ {A = ℕ} 0 1 = cc in absurd (omega arith)
