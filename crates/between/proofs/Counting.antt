-- How many direct paths a walk can lay, whatever tree is walked: at each depth every post is entered at most once, since it has one entry,
-- so that at most k × n paths are laid k posts deep (`laid_most`). Relies on net's laws of sums and of `child`, and on Legs.
use mathlib.Core.Path.{◌≡◌, refl, sym, ap, ◌∙◌}
use mathlib.Core.Bool.{Bool, true, false}
use Prim.Native.Nat.{ℕ, zero, suc, ◌+◌, ◌*◌, ◌≤◌, ◌<◌}
use native.Mathlib.Omega.{arith}
use native.Mathlib.Decide.{dec_lt}
use lib.Dec.{eqb}
use lib.ListN.{length}
use borrow.Author.Tests.{eqb-true, eq-eqb}
use Rattle.net.specs.Words.{only, sum, counted}
use Rattle.net.specs.Net.{other}
use Rattle.net.specs.Trees.{entry, parent}
use Rattle.net.specs.Walk.{Notes, Given, try, lay, enter, child, walk}
use Rattle.net.proofs.Words.{bit, counted_pos}
use Rattle.net.proofs.Sums.{sum_le, sum_ones, sum_swap, sum_one_of, sum_only, sum_some, sum_most}
use Rattle.net.proofs.Steps.{enter_cases, try_laid, lay_laid, count_laid}
use Rattle.net.proofs.Tour.{child_entry, child_parent}
use Rattle.between.proofs.Legs.{leg, legs, walk_legs, walk_none}

-- sums: the first apart, and a test that all of a sum stands under
sum_first : (n : ℕ) (f : ℕ → ℕ) → sum (suc n) f ≡ f 0 + sum n (λ i. f (suc i))
sum_first zero f = omega arith
sum_first (suc n) f = omega (arith, sum_first n f)

counted_sum : (b : Bool) (n : ℕ) (f : ℕ → ℕ) → counted b (sum n f) ≡ sum n (λ i. counted b (f i))
counted_sum true n f = refl
counted_sum false zero f = refl
counted_sum false (suc n) f = omega (arith, counted_sum false n f)

module _ (g : Given) where
  -- how many posts are entered t levels below v, and how often x is one of them
  unfoldable level : ℕ → ℕ → ℕ
  level zero v = 1
  level (suc t) v = sum (length g.segments) (λ i. counted (child g v i) (level t (other g.segments i v)))

  unfoldable hit : ℕ → ℕ → ℕ → ℕ
  hit zero v x = bit (eqb v x)
  hit (suc t) v x = sum (length g.segments) (λ i. counted (child g v i) (hit t (other g.segments i v) x))

  -- the post t levels above x
  unfoldable above : ℕ → ℕ → ℕ
  above zero x = x
  above (suc t) x = parent g.segments g.walked (above t x)

  hit_above : (t v x : ℕ) → 0 < hit t v x → above t x ≡ v
  unfolding hit above
  hit_above zero v x h = sym (eqb-true v x (counted_pos (eqb v x) 1 h).0)
  hit_above (suc t) v x h =
      let z = sum_some (length g.segments) (λ i. counted (child g v i) (hit t (other g.segments i v) x)) h in
      let y = counted_pos (child g v z.0) (hit t (other g.segments z.0 v) x) z.2 in
      ap (parent g.segments g.walked) (hit_above t (other g.segments z.0 v) x y.1) ∙ child_parent g v z.0 z.1 y.0

  bit_most : (b : Bool) → bit b ≤ 1
  bit_most true = omega arith
  bit_most false = omega arith

  counted_most : (b : Bool) (x : ℕ) → x ≤ 1 → counted b x ≤ 1
  counted_most true x h = h
  counted_most false x h = omega arith

  -- AT EACH DEPTH A POST IS ENTERED AT MOST ONCE
  hit_once : (t v x : ℕ) → hit t v x ≤ 1
  unfolding hit
  hit_once zero v x = bit_most (eqb v x)
  hit_once (suc t) v x =
      sum_only (length g.segments) (λ i. counted (child g v i) (hit t (other g.segments i v) x)) 1
      (λ i h. counted_most (child g v i) (hit t (other g.segments i v) x) (hit_once t (other g.segments i v) x))
      (λ i j hi hj ij p. no_other i j hi hj ij p)
    where
      no_other : (i j : ℕ) → i < length g.segments → j < length g.segments → i < j
          → 0 < counted (child g v i) (hit t (other g.segments i v) x) → counted (child g v j) (hit t (other g.segments j v) x) ≡ 0
      no_other i j hi hj ij p = elim (dec_lt 0 (counted (child g v j) (hit t (other g.segments j v) x))) [
        | no q ↦ omega arith
        | yes q ↦
            let a = counted_pos (child g v i) (hit t (other g.segments i v) x) p in
            let b = counted_pos (child g v j) (hit t (other g.segments j v) x) q in
            let c : other g.segments i v ≡ other g.segments j v = sym (hit_above t (other g.segments i v) x a.1) ∙ hit_above t (other g.segments j v) x b.1 in
            absurd (omega (arith, child_entry g v i a.0, child_entry g v j b.0, ap (entry g.walked) c))
      ]

  module _ (n : ℕ) (inside : (v i : ℕ) → i < length g.segments → child g v i ≡ true → other g.segments i v < n) where
    level_row : (t v i : ℕ) → (b : Bool) → child g v i ≡ b → i < length g.segments → ((c : ℕ) → c < n → level t c ≤ sum n (λ x. hit t c x))
        → counted b (level t (other g.segments i v)) ≤ sum n (λ x. counted b (hit t (other g.segments i v) x))
    level_row t v i true e h ih = ih (other g.segments i v) (inside v i h e)
    level_row t v i false e h ih = omega arith

    level_hits : (t v : ℕ) → v < n → level t v ≤ sum n (λ x. hit t v x)
    unfolding level hit
    level_hits zero v h = omega (arith, sum_one_of n (λ x. bit (eqb v x)) v h, ap bit (eq-eqb v v refl))
    level_hits (suc t) v h =
        omega (
          arith,
          sum_le (length g.segments) (λ i. counted (child g v i) (level t (other g.segments i v))) (λ i. sum n (λ x. counted (child g v i) (hit t (other g.segments i v) x)))
              (λ i k. level_row t v i (child g v i) refl k (level_hits t)),
          sum_swap (length g.segments) n (λ i x. counted (child g v i) (hit t (other g.segments i v) x)),
        )

    level_most : (t v : ℕ) → v < n → level t v ≤ n
    level_most t v h = omega (arith, level_hits t v h, sum_le n (λ x. hit t v x) (λ _. 1) (λ x k. hit_once t v x), sum_ones n)

  -- LAID PATHS. Entering lays one path at most, and a walk k posts deep one for each post entered
  visits : ℕ → ℕ → ℕ
  visits k v = sum k (λ t. level t v)

  enter_laid : (v : ℕ) (m : Notes) → length (enter g v m).laid ≤ suc (length m.laid)
  enter_laid v m =
      enter_cases g v m (λ x. length x.laid ≤ suc (length m.laid))
      (λ h. omega (arith, ap length (count_laid g v (lay g g.posts v m)), ap length (lay_laid g g.posts v m)))
      (λ h. omega arith)

  module _ (k v : ℕ) (ih : (c : ℕ) (m : Notes) → length (walk g k c m).laid ≤ length m.laid + visits k c) where
    leg_laid : (i : ℕ) (m : Notes) → length (leg g k v i m).laid ≤ length m.laid + visits k (other g.segments i v)
    unfolding leg
    leg_laid i m =
        let c = other g.segments i v in
        omega (arith, ap length (try_laid g c i v (walk g k c (try g v i c m))), ih c (try g v i c m), ap length (try_laid g v i c m))

    turn_laid : (b : Bool) (i : ℕ) (m : Notes) → length (only b (leg g k v i) m).laid ≤ length m.laid + counted b (visits k (other g.segments i v))
    turn_laid true i m = leg_laid i m
    turn_laid false i m = omega arith

    legs_laid : (j : ℕ) (m : Notes) → length (legs g k v j m).laid ≤ length m.laid + sum j (λ i. counted (child g v i) (visits k (other g.segments i v)))
    legs_laid zero m = omega arith
    legs_laid (suc j) m = omega (arith, legs_laid j m, turn_laid (child g v j) j (legs g k v j m))

  -- the posts entered below v, by child and by depth
  visits_below : (k v : ℕ) → suc (sum (length g.segments) (λ i. counted (child g v i) (visits k (other g.segments i v)))) ≤ visits (suc k) v
  unfolding visits level
  visits_below k v =
      omega (
        arith,
        sum_first k (λ t. level t v),
        sum_le (length g.segments) (λ i. counted (child g v i) (sum k (λ t. level t (other g.segments i v)))) (λ i. sum k (λ t. counted (child g v i) (level t (other g.segments i v))))
            (λ i h. omega (arith, counted_sum (child g v i) k (λ t. level t (other g.segments i v)))),
        sum_swap (length g.segments) k (λ i t. counted (child g v i) (level t (other g.segments i v))),
      )

  walk_laid : (k v : ℕ) (m : Notes) → length (walk g k v m).laid ≤ length m.laid + visits k v
  unfolding visits
  walk_laid zero v m = omega (arith, ap (λ (x : Notes). length x.laid) (walk_none g v m))
  walk_laid (suc k) v m =
      omega (
        arith,
        ap (λ (x : Notes). length x.laid) (walk_legs g k v m),
        legs_laid k v (walk_laid k) (length g.segments) (enter g v m),
        enter_laid v m,
        visits_below k v,
      )

  pub laid_most : (n : ℕ) → ((v i : ℕ) → i < length g.segments → child g v i ≡ true → other g.segments i v < n) → (k v : ℕ) → v < n → (m : Notes) → length (walk g k v m).laid ≤ length m.laid + k * n
  unfolding visits
  laid_most n inside k v h m = omega (arith, walk_laid k v m, sum_most k n (λ t. level t v) (λ t z. level_most n inside t v h))
