-- The way walked is at most twice the tree walked (`tour_twice`): each post of that tree is met once, and its segment is gone down and up.
-- All that is asked of the tree is a depth that grows by one with each child.
use mathlib.Core.Path.{◌≡◌, refl, sym, ap, ◌∙◌}
use mathlib.Core.Bool.{Bool, true, false}
use mathlib.Core.List.{List, [], ◌∷◌, ◌++◌}
use Prim.Native.Nat.{ℕ, zero, suc, ◌+◌, ◌*◌, ◌≤◌, ◌<◌}
use native.Mathlib.Omega.{arith}
use native.Mathlib.Nat.{mul-le-mul_right, add-mul, one-mul}
use native.Mathlib.Decide.{dec_lt}
use lib.ListN.{length}
use lib.Dec.{eqb}
use borrow.Author.Tests.{eqb-true, eq-eqb, ne_eqb}
use Rattle.net.specs.Words.{only, sum, counted, no_segment}
use Rattle.net.specs.Net.{length_at, other}
use Rattle.net.specs.Trees.{entry, parent, whole}
use Rattle.net.specs.Walk.{Given, child}
use Rattle.net.proofs.Words.{counted_pos, bit}
use Rattle.net.proofs.Sums.{sum_le, sum_only, sum_swap, sum_add, sum_one_of, sum_some, sum_mul}
use Rattle.net.proofs.Least.{leads_to}
use Rattle.net.proofs.Used.{entry_length}
use Rattle.net.proofs.Notes.{Owed}
use Rattle.net.proofs.Tour.{Move, trying, tour, leg, legs, Down, stop, deeper, child_leads, child_entry, child_parent}
use Rattle.net.proofs.Cost.{way, way_append}

module _ (g : Given) where
  -- how often x is reached below v, in k levels
  unfoldable pub met : ℕ → ℕ → ℕ → ℕ
  met zero v x = 0
  met (suc k) v x = sum (length g.segments) (λ i. counted (child g v i) (bit (eqb (other g.segments i v) x) + met k (other g.segments i v) x))

  -- the segments below v, in k levels
  unfoldable pub half : ℕ → ℕ → ℕ
  half zero v = 0
  half (suc k) v = sum (length g.segments) (λ i. counted (child g v i) (length_at g.segments i + half k (other g.segments i v)))

  abbrev hung_len : ℕ → ℕ
  hung_len c = entry_length g.segments g.posts g.walked c

  up_n : ℕ → ℕ → ℕ
  up_n zero x = x
  up_n (suc j) x = parent g.segments g.walked (up_n j x)

module _ (g : Given) (ok : ℕ → Bool) (s : ℕ) (owed : Owed g ok s) (dep : ℕ → ℕ) (falls : (v i : ℕ) → i < length g.segments → child g v i ≡ true → dep (other g.segments i v) ≡ suc (dep v)) where
  down_up : {v j x : ℕ} → Down g v j x → up_n g j x ≡ v
  unfolding up_n
  down_up stop = refl
  down_up (deeper {v = v} {i = i} h e d) = ap (parent g.segments g.walked) (down_up d) ∙ child_parent g v i h e

  down_dep : {v j x : ℕ} → Down g v j x → dep x ≡ dep v + j
  down_dep stop = omega arith
  down_dep (deeper {v = v} {i = i} h e d) = omega (arith, down_dep d, falls v i h e)

  -- two posts of one depth above x are one
  one_above : {u v j k x : ℕ} → Down g u j x → Down g v k x → dep u ≡ dep v → u ≡ v
  one_above {u} {v} {j} {k} {x} a b e =
      let q : j ≡ k = omega (arith, down_dep a, down_dep b) in
      sym (down_up a) ∙ ap (λ (z : ℕ). up_n g z x) q ∙ down_up b

  -- a post that is met hangs below
  reached : (k v x : ℕ) → ((u : ℕ) → 0 < met g k u x → (j : ℕ) × Down g u (suc j) x) → (c : ℕ) → 0 < bit (eqb c x) + met g k c x → (j : ℕ) × Down g c j x
  reached k v x ih c h = go (eqb c x) refl h
    where
      go : (b : Bool) → eqb c x ≡ b → 0 < bit b + met g k c x → (j : ℕ) × Down g c j x
      go true e z = (0, rw (eqb-true c x e) stop)
      go false e z = let w = ih c (omega arith) in (suc w.0, w.1)

  met_down : (k v x : ℕ) → 0 < met g k v x → (j : ℕ) × Down g v (suc j) x
  unfolding met
  met_down zero v x h = absurd (omega arith)
  met_down (suc k) v x h =
      let z = sum_some (length g.segments) (λ i. counted (child g v i) (bit (eqb (other g.segments i v) x) + met g k (other g.segments i v) x)) h in
      let c = other g.segments z.0 v in
      let y = counted_pos (child g v z.0) (bit (eqb c x) + met g k c x) z.2 in
      let r = reached k v x (λ u. met_down k u x) c y.1 in
      (r.0, deeper z.1 y.0 r.1)

  -- and is met once
  met_once : (k v x : ℕ) → met g k v x ≤ 1
  unfolding met
  met_once zero v x = omega arith
  met_once (suc k) v x =
      sum_only (length g.segments) (λ i. counted (child g v i) (bit (eqb (other g.segments i v) x) + met g k (other g.segments i v) x)) 1
      (λ i h. at_most i h (child g v i) refl (met_once k (other g.segments i v) x))
      (λ i j hi hj ij p. no_other i j hi hj ij p)
    where
      term_le : (c : ℕ) (b : Bool) → eqb c x ≡ b → met g k c x ≤ 1 → bit b + met g k c x ≤ 1
      term_le c false e ih = omega arith
      term_le c true e ih = elim (dec_lt 0 (met g k c x)) [
        | yes p ↦ let w = met_down k c x p in absurd (omega (arith, down_dep w.1, ap dep (eqb-true c x e)))
        | no p ↦ omega arith
      ]

      at_most : (i : ℕ) → i < length g.segments → (b : Bool) → child g v i ≡ b → met g k (other g.segments i v) x ≤ 1 → counted b (bit (eqb (other g.segments i v) x) + met g k (other g.segments i v) x) ≤ 1
      at_most i h false e ih = omega arith
      at_most i h true e ih = term_le (other g.segments i v) (eqb (other g.segments i v) x) refl ih

      no_other : (i j : ℕ) → i < length g.segments → j < length g.segments → i < j
          → 0 < counted (child g v i) (bit (eqb (other g.segments i v) x) + met g k (other g.segments i v) x)
          → counted (child g v j) (bit (eqb (other g.segments j v) x) + met g k (other g.segments j v) x) ≡ 0
      no_other i j hi hj ij p = elim (dec_lt 0 (counted (child g v j) (bit (eqb (other g.segments j v) x) + met g k (other g.segments j v) x))) [
        | no q ↦ omega arith
        | yes q ↦
            let a = counted_pos (child g v i) (bit (eqb (other g.segments i v) x) + met g k (other g.segments i v) x) p in
            let b = counted_pos (child g v j) (bit (eqb (other g.segments j v) x) + met g k (other g.segments j v) x) q in
            let ra = reached k v x (λ u. met_down k u x) (other g.segments i v) a.1 in
            let rb = reached k v x (λ u. met_down k u x) (other g.segments j v) b.1 in
            let c = one_above ra.1 rb.1 (falls v i hi a.0 ∙ sym (falls v j hj b.0)) in
            absurd (omega (arith, child_entry g v i a.0, child_entry g v j b.0, ap (entry g.walked) c))
      ]

  -- the segments below v are those of the posts met
  abbrev here : ℕ → ℕ → ℕ → ℕ → ℕ
  here k v i x = counted (child g v i) (bit (eqb (other g.segments i v) x) + met g k (other g.segments i v) x)

  child_len : (v i : ℕ) → i < length g.segments → child g v i ≡ true → length_at g.segments i ≡ hung_len g (other g.segments i v)
  child_len v i h e = rw (child_entry g v i e, ne_eqb i no_segment (λ z. omega (arith, owed.few)))

  half_row : (k v i : ℕ) → i < length g.segments → half g k (other g.segments i v) ≤ sum g.posts (λ x. met g k (other g.segments i v) x * hung_len g x)
      → (b : Bool) → child g v i ≡ b
      → counted b (length_at g.segments i + half g k (other g.segments i v)) ≤ sum g.posts (λ x. counted b (bit (eqb (other g.segments i v) x) + met g k (other g.segments i v) x) * hung_len g x)
  half_row k v i h ih false e = omega arith
  half_row k v i h ih true e =
      let c = other g.segments i v in
      let l = child_leads g v i h e in
      let own : hung_len g c ≤ sum g.posts (λ x. bit (eqb c x) * hung_len g x) =
      omega (arith, sum_one_of g.posts (λ x. bit (eqb c x) * hung_len g x) c (leads_to owed.inside l (owed.walked_ok v i h e)), ap (λ (b : Bool). bit b * hung_len g c) (eq-eqb c c refl), one-mul (hung_len g c)) in
      omega (
        arith,
        own,
        ih,
        child_len v i h e,
        sum_add g.posts (λ x. bit (eqb c x) * hung_len g x) (λ x. met g k c x * hung_len g x),
        sum_le g.posts (λ x. bit (eqb c x) * hung_len g x + met g k c x * hung_len g x) (λ x. (bit (eqb c x) + met g k c x) * hung_len g x) (λ x z. omega (arith, add-mul (bit (eqb c x)) (met g k c x) (hung_len g x))),
      )

  half_met : (k v : ℕ) → half g k v ≤ sum g.posts (λ x. met g k v x * hung_len g x)
  unfolding half met
  half_met zero v = omega arith
  half_met (suc k) v =
      omega (
        arith,
        sum_le (length g.segments) (λ i. counted (child g v i) (length_at g.segments i + half g k (other g.segments i v))) (λ i. sum g.posts (λ x. here k v i x * hung_len g x))
            (λ i h. half_row k v i h (half_met k (other g.segments i v)) (child g v i) refl),
        sum_swap (length g.segments) g.posts (λ i x. here k v i x * hung_len g x),
        sum_le g.posts (λ x. sum (length g.segments) (λ i. here k v i x * hung_len g x)) (λ x. sum (length g.segments) (λ i. here k v i x) * hung_len g x)
            (λ x h. omega (arith, sum_mul (length g.segments) (λ i. here k v i x) (hung_len g x))),
      )

  pub half_le : (k v : ℕ) → half g k v ≤ whole g.segments g.posts g.walked
  unfolding whole
  half_le k v =
      omega (
        arith,
        half_met k v,
        sum_le g.posts (λ x. met g k v x * hung_len g x) (hung_len g) (λ x h. omega (arith, mul-le-mul_right (hung_len g x) (met_once k v x), one-mul (hung_len g x))),
      )

  -- each of them there and back
  way_legs : (k v j : ℕ) → ((c : ℕ) → way g.segments (tour g k c) ≡ half g k c + half g k c)
      → way g.segments (legs g (λ c. tour g k c) v j)
      ≡ sum j (λ i. counted (child g v i) (length_at g.segments i + half g k (other g.segments i v))) + sum j (λ i. counted (child g v i) (length_at g.segments i + half g k (other g.segments i v)))
  way_legs k v zero ih = refl
  way_legs k v (suc j) ih = go (child g v j) (legs g (λ c. tour g k c) v j) (way_legs k v j ih)
    where
      S : ℕ
      S = sum j (λ i. counted (child g v i) (length_at g.segments i + half g k (other g.segments i v)))

      go : (b : Bool) (ms : List Move) → way g.segments ms ≡ S + S
          → way g.segments (only b (λ ns. ns ++ leg g v (λ c. tour g k c) j) ms)
          ≡ (S + counted b (length_at g.segments j + half g k (other g.segments j v))) + (S + counted b (length_at g.segments j + half g k (other g.segments j v)))
      go false ms e = omega arith
      go true ms e =
          let c = other g.segments j v in
          omega (arith, e, way_append g.segments ms (leg g v (λ c. tour g k c) j), way_append g.segments (tour g k c) (trying c j v ∷ []), ih c)

  pub way_tour : (k v : ℕ) → way g.segments (tour g k v) ≡ half g k v + half g k v
  unfolding tour half
  way_tour zero v = refl
  way_tour (suc k) v = way_legs k v (length g.segments) (way_tour k)

  -- THE TOUR IS AT MOST TWICE THE TREE
  pub tour_twice : (k v : ℕ) → way g.segments (tour g k v) ≤ 2 * whole g.segments g.posts g.walked
  tour_twice k v = omega (arith, way_tour k v, half_le k v)
