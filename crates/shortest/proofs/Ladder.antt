-- The ladder of the open posts: writing a note up it, and that the least note stands at rung 1. Laws of the records of specs/Ladder. Rests on `Settling` and `hanging`'s `Lists`.
use mathlib.Core.Path.{◌≡◌, refl, sym, ap, ◌∙◌}
use mathlib.Core.Bool.{Bool, false}
use mathlib.Core.List.{List}
use mathlib.Core.Logic.{◌⊎◌, inl, inr, ⊎_elim}
use Prim.Native.Nat.{ℕ, zero, suc, ◌+◌, ◌*◌, ◌-◌, ◌/◌, ◌<◌, ◌≤◌}
use native.Mathlib.Nat.{le_refl, le_trans, le_of_eq}
use native.Mathlib.Omega.{arith}
use lib.ListN.{length, replicate, get_or-replicate}
use Rattle.std.specs.Prelude.{None, Some}
use Rattle.net.specs.Trees.{none_yet}
use Rattle.net.proofs.Words.{true_or_false}
use Rattle.hanging.specs.Lists.{note}
use Rattle.shortest.specs.Notes.{Cleared}
use Rattle.shortest.specs.Ladder.{Rung, Ladder, OpenPosts, Written, NearestOn}
use Rattle.hanging.proofs.Lists.{same?, below?}
use Rattle.shortest.proofs.Settling.{not_both}

-- WRITING UP. From t₀, where c stands at its post's rung, up to rung p: only the rung over p may still be wrong, and the posts' rungs are as they were
pub record Climbing (posts : ℕ) (t₀ t : List ℕ) (p : ℕ) : Type 0 where
  pub same : length t ≡ length t₀
  pub above : 0 < p
  pub within : p < 2 * posts
  pub each : (q : ℕ) → 0 < q → q < posts → (q ≡ p / 2 → ⊥) → Rung (note t) q
  pub posts_kept : (x : ℕ) → x < posts → note t (posts + x) ≡ note t₀ (posts + x)

-- THE LEAST NOTE. What stands at a rung is no more than what stands at a rung below it
halves : (q : ℕ) → (q ≡ 2 * (q / 2)) ⊎ (q ≡ 2 * (q / 2) + 1)
halves q = ⊎_elim inl (λ ne. inr (omega arith)) (same? q (2 * (q / 2)))

rung_below : (t : ℕ → ℕ) (p q : ℕ) → Rung t p → (q ≡ 2 * p) ⊎ (q ≡ 2 * p + 1) → t p ≤ t q
rung_below t p q r (inl e) = rw e (omega arith)
rung_below t p q r (inr e) = rw e (omega arith)

-- so what stands at rung 1 is no more than what stands at any
first_least : {posts : ℕ} {t : ℕ → ℕ} → Ladder posts t → (n q : ℕ) → q ≤ n → 0 < q → q < 2 * posts → t 1 ≤ t q
first_least l zero q h z i = absurd (omega arith)
first_least {posts} {t} l (suc n) q h z i =
    ⊎_elim
    (λ up. le_trans (first_least l n (q / 2) (omega arith) (omega arith) (omega arith)) (rung_below t (q / 2) q (l.each (q / 2) (omega arith) (omega arith)) (halves q)))
    (λ low. le_of_eq (ap t (omega arith)))
    (below? 1 q)

-- at rung p, on the way down, the least note stands
pub record Descending (posts : ℕ) (t : ℕ → ℕ) (p : ℕ) : Type 0 where
  pub above : 0 < p
  pub within : p < 2 * posts
  pub least : t p ≡ t 1

-- no open post has a note below what stands at rung 1
under : {posts : ℕ} {d t : ℕ → ℕ} {S : ℕ → Bool} → OpenPosts posts d S t → (y : ℕ) → y < posts → S y ≡ false → t 1 ≤ d y
under {posts} o y h s = omega (arith, first_least o.ladder (posts + y) (posts + y) (le_refl (posts + y)) (omega arith) (omega arith), o.unsettled y h s)

-- "none yet" stands there
pub nearest_none : {posts : ℕ} {t : ℕ → ℕ} → none_yet ≤ t 1 → NearestOn posts t None
nearest_none k = record { is = λ o y h s. le_trans k (under o y h s) }

-- or the note of the post to whose rung the way led
pub descended : {posts p : ℕ} {t : ℕ → ℕ} → Descending posts t p → posts ≤ p → t 1 < none_yet → NearestOn posts t (Some (p - posts))
descended {posts} {p} {t} D h k = record { is = λ o. (r_in, is_open o, omega (arith, note_is o), λ y i s. omega (arith, note_is o, under o y i s)) }
  where
    r_in : p - posts < posts
    r_in = omega (arith, D.within)

    found : t (posts + (p - posts)) ≡ t 1
    found = ap t (omega arith) ∙ D.least

    is_open : {d : ℕ → ℕ} {S : ℕ → Bool} → OpenPosts posts d S t → S (p - posts) ≡ false
    is_open {S = S} o = ⊎_elim (λ s. absurd (omega (arith, o.settled (p - posts) r_in s, found))) (λ s. s) (true_or_false (S (p - posts)))

    note_is : {d : ℕ → ℕ} {S : ℕ → Bool} → OpenPosts posts d S t → d (p - posts) ≡ t 1
    note_is o = sym (o.unsettled (p - posts) r_in (is_open o)) ∙ found

-- OPEN POSTS. A ladder with "none yet" at every rung
pub ladder_none : {posts : ℕ} → posts ≤ 256 → Ladder posts (note (replicate 512 none_yet))
ladder_none few =
    record {
      each = λ p z h.
          rw (get_or-replicate 512 p none_yet 0 (omega arith), get_or-replicate 512 (2 * p) none_yet 0 (omega arith), get_or-replicate 512 (2 * p + 1) none_yet 0 (omega arith)) refl;
    }

-- then the source alone has a note
pub open_begin : {posts source : ℕ} {d₀ d t : ℕ → ℕ} {S : ℕ → Bool} → posts ≤ 256 → Cleared posts source d₀ d → Written posts source 0 (note (replicate 512 none_yet)) t
    → ((v : ℕ) → S v ≡ false) → OpenPosts posts d S t
open_begin {posts} {source} few c w un =
    record {
      ladder = w.ladder;
      unsettled = λ v h _. ⊎_elim (λ e. rw e (w.here ∙ sym c.zero)) (λ ne. w.others v h ne ∙ get_or-replicate 512 (posts + v) none_yet 0 (omega arith) ∙ sym (c.others v h ne)) (same? v source);
      settled = λ v h s. not_both s (un v);
    }
