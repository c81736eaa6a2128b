-- A tree list against sets of segments: the segments by which its posts hang come to no more than its whole length (`used_cost`), and its posts that hang
-- by segments of a set come to no more than the set, where no two hang by one segment that has a length (`list_cost`).
use mathlib.Core.Path.{◌≡◌, refl, sym, ap, ◌∙◌}
use mathlib.Core.Bool.{Bool, true, false, ◌&&◌}
use mathlib.Core.List.{List}
use Prim.Native.Nat.{ℕ, ◌≤◌, ◌<◌}
use native.Mathlib.Omega.{arith}
use native.Mathlib.Decide.{dec_lt}
use lib.ListN.{length}
use lib.Dec.{eqb}
use borrow.Author.Tests.{eqb-true, eqb-false, eq-eqb, ne_eqb}
use Rattle.net.specs.Words.{sum, counted, no_segment}
use Rattle.net.specs.Net.{length_at, set_length}
use Rattle.net.specs.Trees.{entry, hangs, used_by, whole}
use Rattle.net.specs.declared.Segment.{Segment}
use Rattle.net.proofs.Words.{and_left, and_right, not_true, any_of, any_some, counted_pos, counted_mono}
use Rattle.net.proofs.Sums.{sum_le, sum_only, sum_swap, sum_one_of}

-- the entry of a post that hangs is not 65,535
pub hangs_entry : (t : List ℕ) (v : ℕ) → hangs t v ≡ true → entry t v ≡ no_segment → ⊥
hangs_entry t v e k = eqb-false (entry t v) no_segment (not_true (eqb (entry t v) no_segment) e) k

pub entry_used : (n : ℕ) (t : List ℕ) (c i : ℕ) → c < n → entry t c ≡ i → used_by n t i ≡ true
unfolding used_by
entry_used n t c i h e = any_of (λ v. eqb (entry t v) i) n c h (eq-eqb (entry t c) i e)

pub used_entry : (n : ℕ) (t : List ℕ) (i : ℕ) → used_by n t i ≡ true → (c : ℕ) × (c < n) × (entry t c ≡ i)
unfolding used_by
used_entry n t i e = let z = any_some (λ v. eqb (entry t v) i) n e in (z.0, z.1, eqb-true (entry t z.0) i z.2)

module _ (segs : List Segment) (n : ℕ) (t : List ℕ) where
  abbrev pub entry_length : ℕ → ℕ
  entry_length v = counted (hangs t v) (length_at segs (entry t v))

  -- EACH SEGMENT BY WHICH POSTS HANG, COUNTED ONCE
  module _ (few : length segs ≤ no_segment) where
    abbrev by_one : ℕ → ℕ → ℕ
    by_one c i = counted (eqb (entry t c) i) (length_at segs i)

    used_row : (i : ℕ) → i < length segs → counted (used_by n t i) (length_at segs i) ≤ sum n (λ c. by_one c i)
    used_row i hi = go (used_by n t i) refl
      where
        go : (b : Bool) → used_by n t i ≡ b → counted b (length_at segs i) ≤ sum n (λ c. by_one c i)
        go false e = omega arith
        go true e =
            let z = used_entry n t i e in
            let k : by_one z.0 i ≡ length_at segs i = rw (eq-eqb (entry t z.0) i z.2) in
            omega (arith, k, sum_one_of n (λ c. by_one c i) z.0 z.1)

    used_column : (c : ℕ) → c < n → sum (length segs) (λ i. by_one c i) ≤ entry_length c
    used_column c hc =
        sum_only (length segs) (λ i. by_one c i) (entry_length c)
        (λ i h. each_le i h (eqb (entry t c) i) refl)
        (λ i j hi hj ij pos. no_two i j ij (eqb (entry t c) i) (eqb (entry t c) j) refl refl pos)
      where
        each_le : (i : ℕ) → i < length segs → (b : Bool) → eqb (entry t c) i ≡ b → counted b (length_at segs i) ≤ entry_length c
        each_le i h false e = omega arith
        each_le i h true e =
            let k = eqb-true (entry t c) i e in
            rw (k, ne_eqb i no_segment (λ z. omega arith)) (omega arith)

        no_two : (i j : ℕ) → i < j → (a b : Bool) → eqb (entry t c) i ≡ a → eqb (entry t c) j ≡ b → 0 < counted a (length_at segs i) → counted b (length_at segs j) ≡ 0
        no_two i j h a false p q r = refl
        no_two i j h false true p q r = absurd (omega arith)
        no_two i j h true true p q r = absurd (omega (arith, eqb-true (entry t c) i p, eqb-true (entry t c) j q))

    pub used_cost : set_length segs (used_by n t) ≤ whole segs n t
    unfolding whole
    used_cost =
        omega (
          arith,
          sum_le (length segs) (λ i. counted (used_by n t i) (length_at segs i)) (λ i. sum n (λ c. by_one c i)) used_row,
          sum_swap n (length segs) by_one,
          sum_le n (λ c. sum (length segs) (λ i. by_one c i)) entry_length used_column,
        )

  -- THE POSTS THAT HANG BY SEGMENTS OF A SET
  module _ (P : ℕ → Bool) (in-net : (v : ℕ) → v < n → hangs t v ≡ true → entry t v < length segs)
      (apart : (v x : ℕ) → v < x → x < n → hangs t v ≡ true → entry t v ≡ entry t x → length_at segs (entry t v) ≡ 0) where
    abbrev cell : ℕ → ℕ → ℕ
    cell v i = counted (hangs t v && (eqb (entry t v) i && P i)) (length_at segs i)

    cell_row : (v : ℕ) → v < n → counted (hangs t v && P (entry t v)) (length_at segs (entry t v)) ≤ sum (length segs) (λ i. cell v i)
    cell_row v h = go (hangs t v) refl
      where
        go : (b : Bool) → hangs t v ≡ b → counted (b && P (entry t v)) (length_at segs (entry t v)) ≤ sum (length segs) (λ i. cell v i)
        go false e = omega arith
        go true e =
            let k : cell v (entry t v) ≡ counted (P (entry t v)) (length_at segs (entry t v)) = rw (e, eq-eqb (entry t v) (entry t v) refl) in
            omega (arith, k, sum_one_of (length segs) (λ i. cell v i) (entry t v) (in-net v h e))

    cell_column : (i : ℕ) → i < length segs → sum n (λ v. cell v i) ≤ counted (P i) (length_at segs i)
    cell_column i hi =
        sum_only n (λ v. cell v i) (counted (P i) (length_at segs i))
        (λ v h. counted_mono (hangs t v && (eqb (entry t v) i && P i)) (P i) (length_at segs i) (λ e. and_right (eqb (entry t v) i) (P i) (and_right (hangs t v) (eqb (entry t v) i && P i) e)))
        (λ v x hv hx vx pos. elim (dec_lt 0 (cell x i)) [
          | no z ↦ omega arith
          | yes z ↦
              let a = counted_pos (hangs t v && (eqb (entry t v) i && P i)) (length_at segs i) pos in
              let b = counted_pos (hangs t x && (eqb (entry t x) i && P i)) (length_at segs i) z in
              let ea = eqb-true (entry t v) i (and_left (eqb (entry t v) i) (P i) (and_right (hangs t v) (eqb (entry t v) i && P i) a.0)) in
              let eb = eqb-true (entry t x) i (and_left (eqb (entry t x) i) (P i) (and_right (hangs t x) (eqb (entry t x) i && P i) b.0)) in
              let w = apart v x vx hx (and_left (hangs t v) (eqb (entry t v) i && P i) a.0) (ea ∙ sym eb) in
              absurd (omega (arith, a.1, ap (length_at segs) ea))
        ])

    pub list_cost : sum n (λ v. counted (hangs t v && P (entry t v)) (length_at segs (entry t v))) ≤ set_length segs P
    list_cost =
        omega (
          arith,
          sum_le n (λ v. counted (hangs t v && P (entry t v)) (length_at segs (entry t v))) (λ v. sum (length segs) (λ i. cell v i)) cell_row,
          sum_swap n (length segs) cell,
          sum_le (length segs) (λ i. sum n (λ v. cell v i)) (λ i. counted (P i) (length_at segs i)) cell_column,
        )
