-- What a check answers, and what an answer tells of the lines of its table. `check_sound`, `check_faulty`: what is answered for a whole net, by the rules.
-- Rests on 1 to 7 (Faults).
use mathlib.Core.Path.{◌≡◌, refl, sym, ap, ◌∙◌}
use mathlib.Core.Logic.{◌↔◌}
use mathlib.Core.List.{List}
use mathlib.Core.Option.{Option, none, some}
use Prim.Native.Nat.{ℕ, ◌≤◌}
use native.Mathlib.Omega.{arith}
use lib.ListN.{length}
use Rattle.net.specs.Net.{Ratio, every, most_segments, net_with}
use Rattle.net.specs.Refusals.{Line, first, head_lines, checked_of, check_of}
use Rattle.net.specs.Rules.{NetSound, Faulty}
use Rattle.net.proofs.Tables.{FirstOf, first_only, first_is}
use Rattle.net.proofs.Faults.{head_sound, faulty_first, sound_first, net_faulty, net_sound}
use Rattle.net.specs.declared.Segment.{Segment}
use Rattle.net.specs.declared.Head.{Head}
use Rattle.net.specs.declared.Refusal.{Refusal}
use Rattle.std.specs.Prelude.{Result, Ok, Err}
use Rattle.std.specs.Result.{IsErrAnd}
use Rattle.std.proofs.lemmas.Result.{err_from_is_err_and}
use Rattle.net.specs.Refusals.{Checked}

-- A WAY OUT answers what the first line gives
pub refused_by : {ls : List Line} {r : Refusal} → FirstOf ls (some r) → Err r ≡ checked_of (first ls)
refused_by f = rw (← first_only f)

pub sound_by : {ls : List Line} → FirstOf ls none → Ok tt ≡ checked_of (first ls)
sound_by f = rw (← first_only f)

-- WHAT A CALLED CHECK SAID
pub said_refused : {ls : List Line} {v : Checked} {r : Refusal} → v ≡ checked_of (first ls) → v ≡ Err r → FirstOf ls (some r)
said_refused {ls} {v} {r} e f = first_is (go (first ls) (sym e ∙ f))
  where
    go : (o : Option Refusal) → checked_of o ≡ Err r → o ≡ some r
    go none g = absurd (let z : ◌≡◌ {A = ℕ} 0 1 = cc in omega arith)
    go (some s) g = cc

pub said_sound : {ls : List Line} {v : Checked} → v ≡ checked_of (first ls) → v ≡ Ok tt → FirstOf ls none
said_sound {ls} {v} e f = first_is (go (first ls) (sym e ∙ f))
  where
    go : (o : Option Refusal) → checked_of o ≡ Ok tt → o ≡ none
    go none g = refl
    go (some s) g = absurd (let z : ◌≡◌ {A = ℕ} 0 1 = cc in omega arith)

-- WHAT A `?` HANDS ON is the refusal that it met
pub passed_on : {A : Type 0} {r : Result A Refusal} {e : Refusal} → IsErrAnd r (λ y. y ≡ e) → r ≡ Err e
passed_on {A} {r} h = let p = err_from_is_err_and r h in p.1 ∙ ap Err p.2

-- a head that passes has at most as many segments as a net may have
pub few_segments : (h : Head) (count : ℕ) {v : Checked} → v ≡ checked_of (first (head_lines h count)) → v ≡ Ok tt → count ≤ most_segments
few_segments h count e g = (head_sound h count (said_sound e g)).1

-- BY THE RULES: a net is sound for `check` exactly where none of 1 to 7 holds
pub check_sound : (h : Head) (ratios : List Ratio) (segs : List Segment) → (check_of h ratios segs ≡ Ok tt) ↔ NetSound every (length segs) (net_with h ratios segs)
unfolding check_of
check_sound h ratios segs =
    let n = net_with h ratios segs in
    (λ e. (net_sound every (length segs) n).0 (sym (first_only (said_sound refl e))), λ z. sym (sound_by (sound_first every (length segs) n z)))

-- and it is refused exactly as the rules say
pub check_faulty : (h : Head) (ratios : List Ratio) (segs : List Segment) {r : Refusal} → (check_of h ratios segs ≡ Err r) ↔ Faulty every (length segs) (net_with h ratios segs) r
unfolding check_of
check_faulty h ratios segs =
    let n = net_with h ratios segs in
    (λ e. (net_faulty every (length segs) n).0 (sym (first_only (said_refused refl e))), λ f. sym (refused_by (faulty_first every (length segs) n f)))
