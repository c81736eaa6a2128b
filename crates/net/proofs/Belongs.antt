-- Which segments belong to the lightest tree: exactly those whose ends no chain of segments before them joins (`belongs_says`, `belongs_is`).
-- They join whatever the net joins (`belongs_spans`, `belongs_chain`) and have no ring (`no_ring`). Rests on Routes and Least; lengths may be 0.
use mathlib.Core.Path.{◌≡◌, sym, ap, ◌∙◌}
use mathlib.Core.Bool.{Bool, true, false, not, ◌&&◌}
use mathlib.Core.Logic.{◌⊎◌, inl, inr}
use mathlib.Core.List.{List}
use Prim.Native.Nat.{ℕ, zero, suc, ◌+◌, ◌*◌, ◌≤◌, ◌<◌}
use native.Mathlib.Omega.{arith}
use native.Mathlib.Decide.{dec_lt}
use lib.ListN.{length}
use lib.Dec.{eqb, ltb}
use borrow.Author.Tests.{eqb-true, eq-eqb, ltb-true, lt-ltb}
use Rattle.net.specs.Words.{sum, AllOf, no_segment}
use Rattle.net.proofs.Words.{and_i, and_left, and_right, or_left, or_right, or_cases, not_true, clash, so_false, true_or_false, tab_at, tab_out}
use Rattle.net.proofs.Sums.{sum_one_of}
use Rattle.net.specs.Net.{nth_segment, length_at, Leads, Route, here, by, Chain, before, Before, JoinsAll}
use Rattle.net.proofs.Routes.{join, along, replaced, back, ends_lead, either, without, without_self, Through, avoids, meets, widen, through}
use Rattle.net.proofs.Least.{Inside, inside_part, leads_from, leads_to, joined_chain, not_joined}
use Rattle.net.specs.Trees.{none_yet, joined, earlier, belongs, Belongs, belonging, belongs_at}
use Rattle.net.specs.declared.Segment.{Segment}

-- THE ORDER by length, then number
module _ (segs : List Segment) where
  -- the test says the rule
  pub before_says : (i j : ℕ) → before segs i j ≡ true → Before segs i j
  unfolding before
  before_says i j e =
      let same = eqb (length_at segs i) (length_at segs j) in
      elim (or_cases (ltb (length_at segs i) (length_at segs j)) (same && ltb i j) e) [
        | inl p ↦ inl (ltb-true (length_at segs i) (length_at segs j) p)
        | inr p ↦ inr (eqb-true (length_at segs i) (length_at segs j) (and_left same (ltb i j) p), ltb-true i j (and_right same (ltb i j) p))
      ]

  -- and the rule the test
  pub says_before : (i j : ℕ) → Before segs i j → before segs i j ≡ true
  unfolding before
  says_before i j (inl p) = or_left (ltb (length_at segs i) (length_at segs j)) _ (lt-ltb (length_at segs i) (length_at segs j) p)
  says_before i j (inr p) =
      or_right (ltb (length_at segs i) (length_at segs j)) _ (and_i (eq-eqb (length_at segs i) (length_at segs j) p.0) (lt-ltb i j p.1))

  -- the order as one number, for segment numbers below 65,536
  unfoldable pub key : ℕ → ℕ
  key i = length_at segs i * 65536 + i

  -- a segment before another has the lower key
  pub before_key : (i j : ℕ) → i < 65536 → before segs i j ≡ true → key i < key j
  unfolding key
  before_key i j h e = elim (before_says i j e) [ inl p ↦ omega arith | inr p ↦ omega (arith, p.0, p.1) ]

  -- and one with a lower key stands before
  pub key_before : (i j : ℕ) → j < 65536 → key i < key j → before segs i j ≡ true
  unfolding key
  key_before i j h k = elim (dec_lt (length_at segs i) (length_at segs j)) [
    | yes p ↦ says_before i j (inl p)
    | no p ↦ let e : length_at segs i ≡ length_at segs j = omega arith in says_before i j (inr (e, omega arith))
  ]

  -- different numbers have different keys
  pub same_key : (i j : ℕ) → i < 65536 → j < 65536 → key i ≡ key j → i ≡ j
  unfolding key
  same_key i j hi hj e = omega arith

  -- more than every key
  abbrev pub top : ℕ
  top = suc (sum (length segs) key)

  pub key_top : (i : ℕ) → i < length segs → key i < top
  key_top i h = omega (arith, sum_one_of (length segs) key i h)

  -- of two different segments one stands before the other
  pub before_total : (i j : ℕ) → (i ≡ j → ⊥) → (before segs i j ≡ true) ⊎ (before segs j i ≡ true)
  before_total i j ne = elim (dec_lt (length_at segs i) (length_at segs j)) [
    | yes p ↦ inl (says_before i j (inl p))
    | no p ↦ elim (dec_lt (length_at segs j) (length_at segs i)) [
      | yes q ↦ inr (says_before j i (inl q))
      | no q ↦ elim (dec_lt i j) [
        | yes r ↦ inl (says_before i j (inr (omega arith, r)))
        | no r ↦ inr (says_before j i (inr (omega arith, elim (dec_lt j i) [ yes k ↦ k | no k ↦ absurd (ne (omega arith)) ])))
      ]
    ]
  ]

  -- and not the other before the one
  pub before_strict : (i j : ℕ) → before segs i j ≡ true → before segs j i ≡ true → ⊥
  before_strict i j p q = elim (before_says i j p) [
    | inl a ↦ elim (before_says j i q) [ inl b ↦ omega arith | inr b ↦ omega (arith, b.0) ]
    | inr a ↦ elim (before_says j i q) [ inl b ↦ omega (arith, a.0) | inr b ↦ omega (arith, a.1, b.1) ]
  ]

-- a route of segments that all stand before i, as the rule says it and as the test does
module _ (segs : List Segment) (ok : ℕ → Bool) (n i : ℕ) where
  tested : {u v : ℕ} {is : List ℕ} → AllOf (λ j. Before segs j i) is → Route segs ok u is v → Route segs (earlier segs ok n i) u is v
  tested a here = here
  tested a (by {i = j} l o r) = by l (and_i o (says_before segs j i a.0)) (tested a.1 r)

  ruled : {u v : ℕ} {is : List ℕ} → Route segs (earlier segs ok n i) u is v → AllOf (λ j. Before segs j i) is × Route segs ok u is v
  ruled here = (tt, here)
  ruled (by {i = j} l o r) =
      let z = ruled r in
      ((before_says segs j i (and_right (ok j) (before segs j i) o), z.0), by l (and_left (ok j) (before segs j i) o) z.1)

  -- no chain of segments before it joins the ends of a segment that belongs
  pub belongs_apart : Belongs segs ok n i → Chain segs (earlier segs ok n i) (nth_segment segs i).a (nth_segment segs i).b → ⊥
  belongs_apart z c = let r = ruled c.route in z.apart r.0 r.1

  -- and one that is there belongs, where no chain does
  pub apart_belongs : ok i ≡ true → (Chain segs (earlier segs ok n i) (nth_segment segs i).a (nth_segment segs i).b → ⊥) → Belongs segs ok n i
  apart_belongs o f = record { there = o; apart = λ a r. f (record { is = _; route = tested a r }) }

-- U is made of segments that are there, and joins the ends of each segment that is there
pub record Spans (segs : List Segment) (ok U : ℕ → Bool) : Type 0 where
  pub made_of : (i : ℕ) → i < length segs → U i ≡ true → ok i ≡ true
  pub joins_ends : (i u v : ℕ) → Leads segs i u v → ok i ≡ true → Chain segs U u v

module _ {segs : List Segment} {ok U : ℕ → Bool} where
  -- then it joins whatever the net joins
  pub spans_chain : Spans segs ok U → {u v : ℕ} → Chain segs ok u v → Chain segs U u v
  spans_chain z c = replaced segs z.joins_ends c

  -- segments that join each post to s join the ends of each segment
  pub joins_spans : {n s : ℕ} → Inside segs ok n → JoinsAll segs ok n s U → Spans segs ok U
  joins_spans inside z =
      record {
        made_of = z.made_of;
        joins_ends = λ i u v l o. join segs (back segs (z.joins u (leads_from inside l o))) (z.joins v (leads_to inside l o));
      }

-- THE HIGHEST SEGMENT OF A CHAIN
-- the segments of U with keys below K
abbrev pub lower : List Segment → (ℕ → Bool) → ℕ → ℕ → Bool
lower segs U K j = U j && ltb (key segs j) K

pub lower_says : (segs : List Segment) (U : ℕ → Bool) (K j : ℕ) → lower segs U K j ≡ true → (U j ≡ true) × (key segs j < K)
lower_says segs U K j e = (and_left (U j) (ltb (key segs j) K) e, ltb-true (key segs j) K (and_right (U j) (ltb (key segs j) K) e))

-- a chain of U from one end of b to the other that needs a segment m above b, once, and otherwise keeps below m
pub record Crossing (segs : List Segment) (U : ℕ → Bool) (b : ℕ) : Type 0 where
  pub m : ℕ
  pub x : ℕ
  pub y : ℕ
  pub in_set : U m ≡ true
  pub above : key segs b < key segs m
  pub leads : Leads segs m x y
  pub to_x : Chain segs (lower segs U (key segs m)) (nth_segment segs b).a x
  pub from_y : Chain segs (lower segs U (key segs m)) y (nth_segment segs b).b

-- then b and the rest of that chain join the ends of m
pub around : {segs : List Segment} {U T : ℕ → Bool} {b : ℕ} (z : Crossing segs U b) → b < length segs → T b ≡ true
    → ((j : ℕ) → j < length segs → U j ≡ true → key segs j < key segs z.m → T j ≡ true) → Chain segs T z.x z.y
around {segs} {U} {T} {b} z h e f =
    join segs (back segs (widen segs rest z.to_x)) (join segs (along segs (ends_lead segs b h) e) (back segs (widen segs rest z.from_y)))
  where
    rest : (j : ℕ) → j < length segs → lower segs U (key segs z.m) j ≡ true → T j ≡ true
    rest j k o = let q = lower_says segs U (key segs z.m) j o in f j k q.0 q.1

module _ (segs : List Segment) (ok : ℕ → Bool) (n : ℕ) (few : length segs ≤ no_segment) (U : ℕ → Bool) (made_of : (i : ℕ) → i < length segs → U i ≡ true → ok i ≡ true) where
  highest : (K j : ℕ) → lower segs U (suc K) j ≡ true → lower segs U K j ≡ false → key segs j ≡ K
  highest K j e f =
      let q = lower_says segs U (suc K) j e in
      elim (dec_lt (key segs j) K) [
        | yes p ↦ absurd (clash (and_i q.0 (lt-ltb (key segs j) K p)) f)
        | no p ↦ omega (arith, q.1)
      ]

  one_highest : (K i j : ℕ) → i < length segs → j < length segs
      → lower segs U (suc K) i ≡ true → lower segs U K i ≡ false → lower segs U (suc K) j ≡ true → lower segs U K j ≡ false → i ≡ j
  one_highest K i j hi hj p q r s = same_key segs i j (omega arith) (omega arith) (highest K i p q ∙ sym (highest K j r s))

  module _ (b : ℕ) (is_segment : b < length segs) (belongs-b : Belongs segs ok n b) (out : U b ≡ false) where
    -- no chain of segments below b joins its ends
    none_below : (K : ℕ) → K ≤ suc (key segs b) → Chain segs (lower segs U K) (nth_segment segs b).a (nth_segment segs b).b → ⊥
    none_below K h c = belongs_apart segs ok n b belongs-b (widen segs before_b c)
      where
        before_b : (j : ℕ) → j < length segs → lower segs U K j ≡ true → earlier segs ok n b j ≡ true
        before_b j hj e =
            let q = lower_says segs U K j e in
            let ne : key segs j ≡ key segs b → ⊥ = λ k. clash q.0 (ap U (same_key segs j b (omega arith) (omega arith) k) ∙ out) in
            let lt : key segs j < key segs b = elim (dec_lt (key segs j) (key segs b)) [ yes p ↦ p | no p ↦ absurd (ne (omega (arith, q.1))) ] in
            and_i (made_of j hj q.0) (key_before segs j b (omega arith) lt)

    cross_split : (K : ℕ) → key segs b < K → (Chain segs (lower segs U K) (nth_segment segs b).a (nth_segment segs b).b → Crossing segs U b)
        → Through segs (lower segs U K) (lower segs U (suc K)) (nth_segment segs b).a (nth_segment segs b).b → Crossing segs U b
    cross_split K h ih (avoids c) = ih c
    cross_split K h ih (meets {m = m} {x = x} {y = y} o e c l d) =
        let q = highest K m o e in
        record {
          m = m;
          x = x;
          y = y;
          in_set = (lower_says segs U (suc K) m o).0;
          above = omega arith;
          leads = l;
          to_x = rw q c;
          from_y = rw q d;
        }

    cross : (K : ℕ) → Chain segs (lower segs U K) (nth_segment segs b).a (nth_segment segs b).b → Crossing segs U b
    cross zero c = absurd (none_below zero (omega arith) c)
    cross (suc K) c = elim (dec_lt (key segs b) K) [
      | yes h ↦ cross_split K h (cross K) (through segs (lower segs U K) (lower segs U (suc K)) (one_highest K) c)
      | no h ↦ absurd (none_below (suc K) (omega arith) c)
    ]

    -- where other segments join the ends of a segment that belongs, one of them stands above it
    pub crossing : Chain segs U (nth_segment segs b).a (nth_segment segs b).b → Crossing segs U b
    crossing c = cross (top segs) (widen segs (λ j h o. and_i o (lt-ltb (key segs j) (top segs) (key_top segs j h))) c)

module _ (segs : List Segment) (ok : ℕ → Bool) (n : ℕ) (inside : Inside segs ok n) (n_small : n ≤ none_yet) (few : length segs ≤ no_segment) where
  inside_earlier : (i : ℕ) → Inside segs (earlier segs ok n i) n
  inside_earlier i = inside_part (λ j h o. and_left (ok j) (before segs j i) o) inside

  earlier_says : (i j : ℕ) → j < length segs → earlier segs ok n i j ≡ true → (ok j ≡ true) × (key segs j < key segs i)
  earlier_says i j h e = (and_left (ok j) (before segs j i) e, before_key segs j i (omega arith) (and_right (ok j) (before segs j i) e))

  -- segments before i join its ends, as a test and as a chain
  abbrev ends_joined : ℕ → Bool
  ends_joined i = joined segs n (earlier segs ok n i) (nth_segment segs i).a (nth_segment segs i).b

  ends_chain : (i : ℕ) → ends_joined i ≡ true → Chain segs (earlier segs ok n i) (nth_segment segs i).a (nth_segment segs i).b
  ends_chain i e = joined_chain segs (earlier segs ok n i) n (inside_earlier i) (nth_segment segs i).a (nth_segment segs i).b e

  -- BELONGING. A segment that passes the test belongs: no chain of segments before it joins its ends
  pub belongs_says : (i : ℕ) → i < length segs → belongs segs ok n i ≡ true → Belongs segs ok n i
  unfolding belongs
  belongs_says i h e =
      let o = and_left (ok i) (not (ends_joined i)) e in
      let apart = not_true (ends_joined i) (and_right (ok i) (not (ends_joined i)) e) in
      apart_belongs segs ok n i o (not_joined segs (earlier segs ok n i) n (inside_earlier i) (nth_segment segs i).a (nth_segment segs i).b (inside.a_in i h o) n_small apart)

  -- and a segment that belongs passes the test
  pub belongs_is : (i : ℕ) → Belongs segs ok n i → belongs segs ok n i ≡ true
  unfolding belongs
  belongs_is i z = and_i z.there (rw (so_false (ends_joined i) (λ e. belongs_apart segs ok n i z (ends_chain i e))))

  not_belongs : (i : ℕ) → ok i ≡ true → belongs segs ok n i ≡ false → ends_joined i ≡ true
  unfolding belongs
  not_belongs i o e = elim (true_or_false (ends_joined i)) [ inl p ↦ p | inr p ↦ absurd (clash (and_i o (rw p)) e) ]

  joined_below : (K i u v : ℕ) → key segs i < K → Leads segs i u v → ok i ≡ true → Chain segs (belongs segs ok n) u v
  joined_below zero i u v h l o = absurd (omega arith)
  joined_below (suc K) i u v h l o = elim (true_or_false (belongs segs ok n i)) [
    | inl e ↦ along segs l e
    | inr e ↦
        let c = replaced segs (λ j x y k p. let q = earlier_says i j k.is_segment p in joined_below K j x y (omega (arith, q.1)) k q.0) (ends_chain i (not_belongs i o e)) in
        either segs (ends_lead segs i l.is_segment) c l
  ]

  -- the segments that belong join the ends of each segment that is there
  pub belongs_spans : Spans segs ok (belongs segs ok n)
  belongs_spans =
      record {
        made_of = λ i h e. (belongs_says i h e).there;
        joins_ends = λ i u v l o. joined_below (suc (key segs i)) i u v (omega arith) l o;
      }

  -- whatever the net joins, the segments that belong join
  pub belongs_chain : {u v : ℕ} → Chain segs ok u v → Chain segs (belongs segs ok n) u v
  belongs_chain c = spans_chain belongs_spans c

  lower_earlier : (m j : ℕ) → m < length segs → j < length segs → belongs segs ok n j ≡ true → key segs j < key segs m → earlier segs ok n m j ≡ true
  lower_earlier m j hm hj e k = and_i (belongs_spans.made_of j hj e) (key_before segs j m (omega arith) k)

  -- NO RING. No chain of other segments that belong joins the ends of one that belongs: its highest segment would be joined by the rest of the ring
  pub no_ring : (i : ℕ) → i < length segs → belongs segs ok n i ≡ true → Chain segs (without (belongs segs ok n) i) (nth_segment segs i).a (nth_segment segs i).b → ⊥
  no_ring i h e c = broken (crossing segs ok n few (without (belongs segs ok n) i) (λ j k o. belongs_spans.made_of j k (another j o)) i h (belongs_says i h e) (without_self (belongs segs ok n) i) c)
    where
      another : (j : ℕ) → without (belongs segs ok n) i j ≡ true → belongs segs ok n j ≡ true
      another j o = and_left (belongs segs ok n j) (not (eqb j i)) o

      broken : Crossing segs (without (belongs segs ok n) i) i → ⊥
      broken z =
          let hm = z.leads.is_segment in
          let rest = around z h (lower_earlier z.m i hm h e z.above) (λ j k o. lower_earlier z.m j hm k (another j o)) in
          belongs_apart segs ok n z.m (belongs_says z.m hm (another z.m z.in_set)) (either segs z.leads rest (ends_lead segs z.m hm))

  -- WORKED OUT ONCE. `belongs_at` says the same of each segment
  pub belongs_at_law : (i : ℕ) → i < length segs → belongs_at segs ok n i ≡ belongs segs ok n i
  unfolding belonging
  belongs_at_law i h = tab_at (belongs segs ok n) (length segs) i false h

  -- what passes is a segment
  pub belongs_at_segment : (i : ℕ) → belongs_at segs ok n i ≡ true → i < length segs
  unfolding belonging
  belongs_at_segment i e = elim (dec_lt i (length segs)) [
    | yes p ↦ p
    | no p ↦ absurd (clash e (tab_out (belongs segs ok n) (length segs) i false (omega arith)))
  ]

  -- what passes belongs
  pub belongs_at_says : (i : ℕ) → belongs_at segs ok n i ≡ true → Belongs segs ok n i
  belongs_at_says i e = let h = belongs_at_segment i e in belongs_says i h (sym (belongs_at_law i h) ∙ e)

  -- whatever the net joins, what passes joins
  pub belongs_at_chain : {u v : ℕ} → Chain segs ok u v → Chain segs (belongs_at segs ok n) u v
  belongs_at_chain c = widen segs (λ i h o. belongs_at_law i h ∙ o) (belongs_chain c)
