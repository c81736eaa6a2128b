-- The segments that belong come to no more than any segments that join the ends of each segment (`belongs_least`): what such a set lacks of them is taken in,
-- in rising order, each for a segment above it (`exchanged`). Rests on Belongs and Sums; lengths may be 0, and of any size.
use mathlib.Core.Path.{◌≡◌, refl, ap}
use mathlib.Core.Bool.{Bool, true, false, not, ◌&&◌, ◌||◌}
use mathlib.Core.Logic.{inl, inr}
use mathlib.Core.List.{List}
use Prim.Native.Nat.{ℕ, zero, suc, ◌+◌, ◌≤◌, ◌<◌}
use native.Mathlib.Omega.{arith}
use native.Mathlib.Decide.{dec_lt, ℕ_discrete}
use lib.ListN.{length}
use lib.Dec.{eqb}
use borrow.Author.Tests.{eqb-true, eq-eqb}
use Rattle.net.specs.Words.{counted, no_segment, lowest}
use Rattle.net.proofs.Words.{and_i, and_left, and_right, or_left, or_right, or_cases, not_true, clash, true_or_false, counted_le, counted_mono, Lowest, found, nothing, lowest_is}
use Rattle.net.proofs.Sums.{sum_le, sum_change, sum_drop}
use Rattle.net.specs.Net.{length_at, Leads, Chain, set_length}
use Rattle.net.proofs.Routes.{along, replaced, ends_lead, either, without, without_self, without_keeps}
use Rattle.net.proofs.Least.{Inside}
use Rattle.net.specs.Trees.{none_yet, belongs, Belongs}
use Rattle.net.proofs.Belongs.{key, same_key, top, key_top, Spans, Crossing, around, crossing, belongs_says}
use Rattle.net.specs.declared.Segment.{Segment}

-- SETS
-- a set that has all that another has comes to no less
set_mono : (segs : List Segment) (P T : ℕ → Bool) → ((i : ℕ) → i < length segs → P i ≡ true → T i ≡ true) → set_length segs P ≤ set_length segs T
set_mono segs P T f = sum_le (length segs) (λ i. counted (P i) (length_at segs i)) (λ i. counted (T i) (length_at segs i)) (λ i h. counted_mono (P i) (T i) (length_at segs i) (f i h))

-- U without m, and with b
abbrev swap : (ℕ → Bool) → ℕ → ℕ → ℕ → Bool
swap U m b i = without U m i || eqb i b

swap_new : (U : ℕ → Bool) (m b : ℕ) → swap U m b b ≡ true
swap_new U m b = or_right (without U m b) (eqb b b) (eq-eqb b b refl)

swap_keeps : (U : ℕ → Bool) (m b i : ℕ) → U i ≡ true → (i ≡ m → ⊥) → swap U m b i ≡ true
swap_keeps U m b i o ne = or_left (without U m i) (eqb i b) (without_keeps U m i o ne)

-- no more than U comes to, where m is in U and no shorter than b
swap_length : (segs : List Segment) (U : ℕ → Bool) (m b : ℕ) → m < length segs → U m ≡ true → length_at segs b ≤ length_at segs m → set_length segs (swap U m b) ≤ set_length segs U
swap_length segs U m b h o k = omega (arith, dropped, added, counted_le (swap U m b b) (length_at segs b))
  where
    dropped : set_length segs (without U m) + length_at segs m ≤ set_length segs U
    dropped =
        sum_drop (length segs) (λ i. counted (U i) (length_at segs i)) (λ i. counted (without U m i) (length_at segs i)) m (length_at segs m) h
        (λ i p ne. counted_mono (without U m i) (U i) (length_at segs i) (and_left (U i) (not (eqb i m))))
        (rw (without_self U m, o) (omega arith))

    kept : (i : ℕ) → (i ≡ b → ⊥) → swap U m b i ≡ true → without U m i ≡ true
    kept i ne e = elim (or_cases (without U m i) (eqb i b) e) [ inl q ↦ q | inr q ↦ absurd (ne (eqb-true i b q)) ]

    added : set_length segs (swap U m b) ≤ set_length segs (without U m) + counted (swap U m b b) (length_at segs b)
    added =
        sum_change (length segs) (λ i. counted (without U m i) (length_at segs i)) (λ i. counted (swap U m b i) (length_at segs i)) b
        (λ i p ne. counted_mono (swap U m b i) (without U m i) (length_at segs i) (kept i ne))

-- a set that comes to no more than U, has b, and has all of U below b
pub record Exchanged (segs : List Segment) (ok U : ℕ → Bool) (b : ℕ) : Type 1 where
  pub set' : ℕ → Bool
  pub spans : Spans segs ok set'
  pub has_b : set' b ≡ true
  pub keeps : (i : ℕ) → U i ≡ true → key segs i < key segs b → set' i ≡ true
  pub no_longer : set_length segs set' ≤ set_length segs U

-- a set that comes to no more than U and has every segment that belongs with a key below K
pub record Taken (segs : List Segment) (ok : ℕ → Bool) (n : ℕ) (U : ℕ → Bool) (K : ℕ) : Type 1 where
  pub set' : ℕ → Bool
  pub spans : Spans segs ok set'
  pub has : (i : ℕ) → i < length segs → belongs segs ok n i ≡ true → key segs i < K → set' i ≡ true
  pub no_longer : set_length segs set' ≤ set_length segs U

module _ (segs : List Segment) (ok : ℕ → Bool) (n : ℕ) (inside : Inside segs ok n) (n_small : n ≤ none_yet) (few : length segs ≤ no_segment) (U : ℕ → Bool) (spans : Spans segs ok U) where
  no_shorter : (b m : ℕ) → m < length segs → key segs b < key segs m → length_at segs b ≤ length_at segs m
  unfolding key
  no_shorter b m h k = omega arith

  -- the segment that the chain of U between the ends of b needs above b goes, and b comes
  exchange : (b : ℕ) → b < length segs → Belongs segs ok n b → Crossing segs U b → Exchanged segs ok U b
  exchange b hb bel z =
      record {
        set' = swap U z.m b;
        spans =
            record {
              made_of = λ i h e. elim (or_cases (without U z.m i) (eqb i b) e) [
                | inl q ↦ spans.made_of i h (and_left (U i) (not (eqb i z.m)) q)
                | inr q ↦ rw (eqb-true i b q) bel.there
              ];
              joins_ends = λ i u v l o. replaced segs instead (spans.joins_ends i u v l o);
            };
        has_b = swap_new U z.m b;
        keeps = λ i o k. swap_keeps U z.m b i o (λ e. omega (arith, ap (key segs) e, z.above));
        no_longer = swap_length segs U z.m b z.leads.is_segment z.in_set (no_shorter b z.m z.leads.is_segment z.above);
      }
    where
      instead : (i u v : ℕ) → Leads segs i u v → U i ≡ true → Chain segs (swap U z.m b) u v
      instead i u v l o = elim (ℕ_discrete i z.m) [
        | no e ↦ along segs l (swap_keeps U z.m b i o e)
        | yes e ↦
            let rest = around z hb (swap_new U z.m b) (λ j h p k. swap_keeps U z.m b j p (λ q. omega (arith, ap (key segs) q))) in
            either segs z.leads rest (rw e at l)
      ]

  -- a segment that belongs and isn't in the set is taken in for one above it
  pub exchanged : (b : ℕ) → b < length segs → belongs segs ok n b ≡ true → U b ≡ false → Exchanged segs ok U b
  exchanged b hb e out =
      let bel = belongs_says segs ok n inside n_small few b hb e in
      exchange b hb bel (crossing segs ok n few U spans.made_of b hb bel out (spans.joins_ends b _ _ (ends_lead segs b hb) bel.there))

module _ (segs : List Segment) (ok : ℕ → Bool) (n : ℕ) (inside : Inside segs ok n) (n_small : n ≤ none_yet) (few : length segs ≤ no_segment) (U : ℕ → Bool) where
  -- the segment of key K, if it belongs and isn't in the set yet
  abbrev lacking : (ℕ → Bool) → ℕ → ℕ → Bool
  lacking T K i = eqb (key segs i) K && (belongs segs ok n i && not (T i))

  take_next : (K : ℕ) (t : Taken segs ok n U K) (b : ℕ) → Lowest (length segs) (lacking t.set' K) b → Taken segs ok n U (suc K)
  take_next K t b (found h e z) =
      let in_tree = belongs segs ok n b in
      let rest = and_right (eqb (key segs b) K) (in_tree && not (t.set' b)) e in
      let kb = eqb-true (key segs b) K (and_left (eqb (key segs b) K) (in_tree && not (t.set' b)) e) in
      let x = exchanged segs ok n inside n_small few t.set' t.spans b h (and_left in_tree (not (t.set' b)) rest) (not_true (t.set' b) (and_right in_tree (not (t.set' b)) rest)) in
      record {
        set' = x.set';
        spans = x.spans;
        has = λ i hi bi k. elim (dec_lt (key segs i) K) [
          | yes p ↦ x.keeps i (t.has i hi bi p) (omega arith)
          | no p ↦ let q : i ≡ b = same_key segs i b (omega arith) (omega arith) (omega arith) in rw q x.has_b
        ];
        no_longer = omega (arith, x.no_longer, t.no_longer);
      }
  take_next K t b (nothing p z) =
      record {
        set' = t.set';
        spans = t.spans;
        has = λ i hi bi k. elim (dec_lt (key segs i) K) [
          | yes p ↦ t.has i hi bi p
          | no p ↦ elim (true_or_false (t.set' i)) [
            | inl e ↦ e
            | inr e ↦ absurd (clash (and_i (eq-eqb (key segs i) K (omega arith)) (and_i bi (rw e))) (z i hi))
          ]
        ];
        no_longer = t.no_longer;
      }

  module _ (spans : Spans segs ok U) where
    taken : (K : ℕ) → Taken segs ok n U K
    taken zero = record { set' = U; spans = spans; has = λ i hi bi k. absurd (omega arith); no_longer = omega arith }
    taken (suc K) =
        let t = taken K in
        take_next K t (lowest (length segs) (lacking t.set' K)) (lowest_is (lacking t.set' K) (length segs) few)

    -- the segments that belong come to no more than any that join the ends of each segment
    pub belongs_least : set_length segs (belongs segs ok n) ≤ set_length segs U
    belongs_least =
        let t = taken (top segs) in
        let has : (i : ℕ) → i < length segs → belongs segs ok n i ≡ true → t.set' i ≡ true = λ i h e. t.has i h e (key_top segs i h) in
        omega (arith, t.no_longer, set_mono segs (belongs segs ok n) t.set' has)
