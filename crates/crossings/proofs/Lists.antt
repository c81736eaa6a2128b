-- The laws of `laid`, for loops that lay one list over another: one more place, and the length. Of segments side by side: their first n. And that `put_out`
-- has one outcome.
-- Assumes nothing.
use mathlib.Core.Path.{◌≡◌, refl, sym, ap, subst, ◌∙◌}
use mathlib.Core.List.{List, [], ◌∷◌}
use Prim.Native.Nat.{ℕ, zero, suc, ◌+◌, ◌<◌, ◌≤◌}
use native.Mathlib.Nat.{not-suc-le-zero, le_of_suc-le-suc}
use native.Mathlib.Numerals.{add-one}
use lib.ListN.{length, set, take, get_or}
use Rattle.net.specs.Net.{segments_of}
use Rattle.net.specs.declared.Segment.{Segment}
use Rattle.crossings.specs.Lists.{laid, PutOut}

module _ {A : Type 0} where
  laid_suc : (n : ℕ) (w d : List A) (z : A) → n < length w → n < length d → set (laid n w d) n (get_or w n z) ≡ laid (suc n) w d
  laid_suc n [] d z h k = absurd (not-suc-le-zero h)
  laid_suc n (s ∷ w) [] z h k = absurd (not-suc-le-zero k)
  laid_suc zero (s ∷ w) (x ∷ d) z h k = refl
  laid_suc (suc n) (s ∷ w) (x ∷ d) z h k = ap (λ (t : List A). s ∷ t) (laid_suc n w d z (le_of_suc-le-suc h) (le_of_suc-le-suc k))

  -- one more place
  pub laid_more : (n : ℕ) (w d : List A) (z : A) → n < length w → n < length d → set (laid n w d) n (get_or w n z) ≡ laid (n + 1) w d
  laid_more n w d z h k = subst (λ (m : ℕ). set (laid n w d) n (get_or w n z) ≡ laid m w d) (sym (add-one n)) (laid_suc n w d z h k)

  pub laid_length : (n : ℕ) (w d : List A) → n ≤ length w → n ≤ length d → length (laid n w d) ≡ length d
  laid_length zero w d h k = refl
  laid_length (suc n) [] d h k = absurd (not-suc-le-zero h)
  laid_length (suc n) (s ∷ w) [] h k = absurd (not-suc-le-zero k)
  laid_length (suc n) (s ∷ w) (x ∷ d) h k = ap suc (laid_length n w d (le_of_suc-le-suc h) (le_of_suc-le-suc k))

-- the first n of segments side by side are those of the first n of each list
pub take_segments : (n : ℕ) (a b l : List ℕ) → take n (segments_of a b l) ≡ segments_of (take n a) (take n b) (take n l)
take_segments zero (x ∷ a) (y ∷ b) (z ∷ l) = refl
take_segments (suc n) (x ∷ a) (y ∷ b) (z ∷ l) = ap (λ (t : List Segment). record { a = x; b = y; length = z } ∷ t) (take_segments n a b l)
take_segments zero (x ∷ a) (y ∷ b) [] = refl
take_segments (suc n) (x ∷ a) (y ∷ b) [] = refl
take_segments zero (x ∷ a) [] l = refl
take_segments (suc n) (x ∷ a) [] l = refl
take_segments zero [] b l = refl
take_segments (suc n) [] b l = refl

-- two outcomes that the contract of `put_out` allows are equal
pub put_out_one : (n : ℕ) (w l : List Segment) {x y : List Segment} → PutOut n w l x → PutOut n w l y → x ≡ y
put_out_one n w l p q = p ∙ sym q
