-- A net's segments as three lists side by side (`segments_of`): how many there are, and what stands at i. General laws, cited wherever code works on slices.
use mathlib.Core.Path.{◌≡◌, refl, ap}
use mathlib.Core.List.{List, [], ◌∷◌}
use Prim.Native.Nat.{ℕ, zero, suc, ◌<◌, min}
use native.Mathlib.Omega.{arith}
use lib.ListN.{length, get_or}
use Rattle.net.specs.Net.{segments_of, nth_segment}
use Rattle.net.specs.declared.Segment.{Segment}

-- an element that is there does not depend on what stands behind the end
pub get_d_any : {A : Type 0} (l : List A) (i : ℕ) (d e : A) → i < length l → get_or l i d ≡ get_or l i e
get_d_any [] i d e h = absurd (omega arith)
get_d_any (x ∷ l) zero d e h = refl
get_d_any (x ∷ l) (suc i) d e h = get_d_any l i d e (omega arith)

-- THREE LISTS SIDE BY SIDE have as many segments as the shortest has places
pub segments_count : (xs ys ls : List ℕ) → length (segments_of xs ys ls) ≡ min (min (length xs) (length ys)) (length ls)
segments_count (x ∷ xs) (y ∷ ys) (l ∷ ls) = omega (arith, segments_count xs ys ls)
segments_count (x ∷ xs) (y ∷ ys) [] = omega arith
segments_count (x ∷ xs) [] ls = omega arith
segments_count [] ys ls = omega arith

-- and segment i has what stands at i in each
pub segment_fields : (xs ys ls : List ℕ) (i : ℕ) → i < length xs → i < length ys → i < length ls
    → record { a = get_or xs i 0; b = get_or ys i 0; length = get_or ls i 0 } ≡ nth_segment (segments_of xs ys ls) i
segment_fields (x ∷ xs) (y ∷ ys) (l ∷ ls) zero p q r = refl
segment_fields (x ∷ xs) (y ∷ ys) (l ∷ ls) (suc i) p q r = segment_fields xs ys ls i (omega arith) (omega arith) (omega arith)
segment_fields (x ∷ xs) (y ∷ ys) [] i p q r = absurd (omega arith)
segment_fields (x ∷ xs) [] ls i p q r = absurd (omega arith)
segment_fields [] ys ls i p q r = absurd (omega arith)

-- a number below the count is a place in each
pub in_each : (xs ys ls : List ℕ) (i : ℕ) → i < length (segments_of xs ys ls) → (i < length xs) × (i < length ys) × (i < length ls)
in_each xs ys ls i h = let e = segments_count xs ys ls in (omega arith, omega arith, omega arith)

-- EQUALLY LONG: as many segments as places
pub length_segments : (a b l : List ℕ) → length b ≡ length a → length l ≡ length a → length (segments_of a b l) ≡ length a
length_segments a b l p q = omega (arith, segments_count a b l)

-- segment i is made of what stands at i, and of zeros behind the end
pub segments_at : (a b l : List ℕ) (i : ℕ) → length b ≡ length a → length l ≡ length a
    → nth_segment (segments_of a b l) i ≡ record { a = get_or a i 0; b = get_or b i 0; length = get_or l i 0 }
segments_at [] [] [] i p q = refl
segments_at [] (y ∷ b) l i p q = absurd (omega arith)
segments_at [] [] (z ∷ l) i p q = absurd (omega arith)
segments_at (x ∷ a) [] l i p q = absurd (omega arith)
segments_at (x ∷ a) (y ∷ b) [] i p q = absurd (omega arith)
segments_at (x ∷ a) (y ∷ b) (z ∷ l) zero p q = refl
segments_at (x ∷ a) (y ∷ b) (z ∷ l) (suc i) p q = segments_at a b l i (omega arith) (omega arith)

-- the same, field by field
pub record Are (a b l : List ℕ) : Type 0 where
  pub a_is : (i : ℕ) → (nth_segment (segments_of a b l) i).a ≡ get_or a i 0
  pub b_is : (i : ℕ) → (nth_segment (segments_of a b l) i).b ≡ get_or b i 0
  pub length_is : (i : ℕ) → (nth_segment (segments_of a b l) i).length ≡ get_or l i 0

pub segments_are : (a b l : List ℕ) → length b ≡ length a → length l ≡ length a → Are a b l
segments_are a b l p q =
    record {
      a_is = λ i. ap (λ (s : Segment). s.a) (segments_at a b l i p q);
      b_is = λ i. ap (λ (s : Segment). s.b) (segments_at a b l i p q);
      length_is = λ i. ap (λ (s : Segment). s.length) (segments_at a b l i p q);
    }
