-- A net in plain lists that the checks let pass is ready, and what that says of its numbers. Three lists of any lengths stand for their common front (`cut_same`).
use mathlib.Core.Path.{◌≡◌, refl, sym, ap, ◌∙◌}
use mathlib.Core.List.{List, [], ◌∷◌}
use Prim.Native.Nat.{ℕ, zero, suc, ◌≤◌, ◌<◌}
use native.Mathlib.Omega.{arith}
use native.Mathlib.Nat.{le_refl}
use lib.ListN.{length, take}
use lib.Seq.{length-take-le}
use Rattle.net.specs.Net.{every, ratios_of, segments_of, most_posts, most_segments}
use Rattle.net.specs.Refusals.{check_of}
use Rattle.net.specs.Ready.{net_at, Ready}
use Rattle.net.specs.declared.Head.{Head}
use Rattle.net.specs.declared.Segment.{Segment}
use Rattle.std.specs.Prelude.{Ok}
use Rattle.net.specs.Refusals.{Checked}
use Rattle.net.proofs.Segments.{segments_count, length_segments}
use Rattle.net.proofs.Checks.{check_sound}
use Rattle.net.proofs.Least.{Inside}
use Rattle.net.proofs.Sound.{inside}

-- none of 1 to 7
pub ready_sound : (head : Head) (p q a b lengths : List ℕ) {v : Checked} → length b ≡ length a → length lengths ≡ length a → v ≡ check_of head (ratios_of p q) (segments_of a b lengths) → v ≡ Ok tt → Ready head p q a b lengths
ready_sound head p q a b lengths h k e f = record { b_level = h; lengths_level = k; sound = (check_sound head (ratios_of p q) (segments_of a b lengths)).0 (sym e ∙ f) }

module _ {head : Head} {p q a b lengths : List ℕ} (r : Ready head p q a b lengths) where
  pub ready_count : length (segments_of a b lengths) ≡ length a
  ready_count = length_segments a b lengths r.b_level r.lengths_level

  pub ready_few : length a ≤ most_segments
  ready_few = omega (arith, ready_count, r.sound.few_segments)

  pub ready_posts : head.posts ≤ most_posts
  ready_posts = r.sound.head_sound.posts_sound.few_posts

  pub ready_source : head.source < head.posts
  ready_source = r.sound.head_sound.source_in

  pub ready_inside : Inside (segments_of a b lengths) every head.posts
  ready_inside = inside every (length (segments_of a b lengths)) (net_at head p q a b lengths) (le_refl _) r.sound

-- A COMMON FRONT: the first m of each, where the shortest has m, are the same segments
front_same : (xs ys ls : List ℕ) (m : ℕ) → length (segments_of xs ys ls) ≤ m → segments_of (take m xs) (take m ys) (take m ls) ≡ segments_of xs ys ls
front_same (x ∷ xs) (y ∷ ys) (l ∷ ls) zero h = absurd (omega arith)
front_same (x ∷ xs) (y ∷ ys) (l ∷ ls) (suc m) h = ap (λ (z : List Segment). record { a = x; b = y; length = l } ∷ z) (front_same xs ys ls m (omega arith))
front_same (x ∷ xs) (y ∷ ys) [] zero h = refl
front_same (x ∷ xs) (y ∷ ys) [] (suc m) h = refl
front_same (x ∷ xs) [] ls zero h = refl
front_same (x ∷ xs) [] ls (suc m) h = refl
front_same [] ys ls zero h = refl
front_same [] ys ls (suc m) h = refl

pub cut_same : (xs ys ls : List ℕ) {m : ℕ} → m ≡ length (segments_of xs ys ls) → segments_of (take m xs) (take m ys) (take m ls) ≡ segments_of xs ys ls
cut_same xs ys ls {m} e = front_same xs ys ls m (omega arith)

-- and they are equally long
pub cut_level : (xs ys ls : List ℕ) {m : ℕ} → m ≡ length (segments_of xs ys ls) → (length (take m xs) ≡ m) × (length (take m ys) ≡ m) × (length (take m ls) ≡ m)
cut_level xs ys ls {m} e =
    let c = segments_count xs ys ls in
    (length-take-le m xs (omega arith), length-take-le m ys (omega arith), length-take-le m ls (omega arith))

-- so a net of plain lists that the checks let pass is ready once its segments are cut
pub ready_cut : (head : Head) (p q xs ys ls : List ℕ) {m : ℕ} {v : Checked} → m ≡ length (segments_of xs ys ls) → v ≡ check_of head (ratios_of p q) (segments_of xs ys ls) → v ≡ Ok tt
    → Ready head p q (take m xs) (take m ys) (take m ls)
ready_cut head p q xs ys ls {m} {v} e f g =
    let c = cut_level xs ys ls e in
    ready_sound head p q (take m xs) (take m ys) (take m ls) (c.1 ∙ sym c.0) (c.2 ∙ sym c.0) (rw (cut_same xs ys ls e) f) g
