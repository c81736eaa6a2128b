-- Laws of the words that the definitions are written in (specs/Words), and of tests. Every other law stands on these.
use mathlib.Core.Path.{◌≡◌, refl, sym, ap, ◌∙◌}
use mathlib.Core.Bool.{Bool, true, false, not, ◌&&◌, ◌||◌}
use mathlib.Core.Logic.{◌⊎◌, inl, inr}
use mathlib.Core.List.{[], ◌∷◌}
use Prim.Native.Nat.{ℕ, zero, suc, ◌≤◌, ◌<◌, min}
use native.Mathlib.Omega.{arith}
use native.Mathlib.Decide.{dec_lt, dec_le}
use lib.ListN.{length, get_or, length-append, get_or-append, get_or-eq_default}
use lib.Seq.{get_or_at}
use lib.Dec.{eqb}
use borrow.Author.Tests.{eqb-true, eqb-false}
use Rattle.net.specs.Words.{each, only, tab, counted, no_segment, largest, any, least_of, lowest}

module _ {S : Type 0} (f : ℕ → S) where
  pub length_tab : (n : ℕ) → length (tab n f) ≡ n
  length_tab zero = refl
  length_tab (suc n) = length-append (tab n f) (f n ∷ []) ∙ omega (arith, length_tab n)

  pub tab_at : (n i : ℕ) (d : S) → i < n → get_or (tab n f) i d ≡ f i
  tab_at zero i d h = absurd (omega arith)
  tab_at (suc n) i d h = elim (dec_lt i n) [
    | yes p ↦ get_or-append (tab n f) (f n ∷ []) d i (omega (arith, length_tab n)) ∙ tab_at n i d p
    | no p ↦ let e : n ≡ i = omega arith in rw (← e) (get_or_at (tab n f) (f n) [] d n (length_tab n))
  ]

  pub tab_out : (n i : ℕ) (d : S) → n ≤ i → get_or (tab n f) i d ≡ d
  tab_out n i d h = get_or-eq_default (tab n f) d (omega (arith, length_tab n))

-- two ways that agree at each number below m
pub each_same : {S : Type 0} (m : ℕ) (f h : ℕ → S → S) (x : S) → ((i : ℕ) → i < m → (y : S) → f i y ≡ h i y) → each m f x ≡ each m h x
each_same zero f h x e = refl
each_same (suc m) f h x e = e m (omega arith) (each m f x) ∙ ap (h m) (each_same m f h x (λ i k. e i (omega arith)))

-- f k times
module _ {S : Type 0} (f : S → S) where
  pub each_inner : (n : ℕ) (s : S) → each n (λ _. f) (f s) ≡ f (each n (λ _. f) s)
  each_inner zero s = refl
  each_inner (suc n) s = ap f (each_inner n s)

only_min_le : (b : Bool) (c y : ℕ) → only b (λ z. min c z) y ≤ y
only_min_le true c y = omega arith
only_min_le false c y = omega arith

only_min_at : (b : Bool) (c y : ℕ) → b ≡ true → only b (λ z. min c z) y ≤ c
only_min_at true c y e = omega arith
only_min_at false c y e = let z : ◌≡◌ {A = ℕ} 0 1 = cc in omega arith

-- where a least value comes from
pub data From (m : ℕ) (t : ℕ → Bool) (f : ℕ → ℕ) (x y : ℕ) : Type 0 where
  kept : y ≡ x → From m t f x y
  of : (i : ℕ) → i < m → t i ≡ true → y ≡ f i → From m t f x y

module _ (t : ℕ → Bool) (f : ℕ → ℕ) (x : ℕ) where
  pub least_of_start : (m : ℕ) → least_of m t f x ≤ x
  least_of_start zero = omega arith
  least_of_start (suc m) = omega (arith, only_min_le (t m) (f m) (least_of m t f x), least_of_start m)

  pub least_of_le : (m i : ℕ) → i < m → t i ≡ true → least_of m t f x ≤ f i
  least_of_le zero i h e = absurd (omega arith)
  least_of_le (suc m) i h e = elim (dec_lt i m) [
    | yes p ↦ omega (arith, only_min_le (t m) (f m) (least_of m t f x), least_of_le m i p e)
    | no p ↦ let q : i ≡ m = omega arith in rw q (only_min_at (t m) (f m) (least_of m t f x) (rw q at e))
  ]

  wider : (m y : ℕ) → From m t f x y → From (suc m) t f x y
  wider m y (kept e) = kept e
  wider m y (of i h e z) = of i (omega arith) e z

  one_more : (m y : ℕ) (b : Bool) → t m ≡ b → From m t f x y → From (suc m) t f x (only b (λ z. min (f m) z) y)
  one_more m y false e r = wider m y r
  one_more m y true e r = elim (dec_le y (f m)) [
    | yes p ↦ let q : min (f m) y ≡ y = omega arith in rw q (wider m y r)
    | no p ↦ of m (omega arith) e (omega arith)
  ]

  pub least_of_from : (m : ℕ) → From m t f x (least_of m t f x)
  least_of_from zero = kept refl
  least_of_from (suc m) = one_more m (least_of m t f x) (t m) refl (least_of_from m)

-- tests
pub and_i : {a b : Bool} → a ≡ true → b ≡ true → a && b ≡ true
and_i {a} {b} p q = rw (p, q)

pub and_left : (a b : Bool) → a && b ≡ true → a ≡ true
and_left true b p = refl
and_left false b p = p

pub and_right : (a b : Bool) → a && b ≡ true → b ≡ true
and_right true b p = p
and_right false b p = absurd (let z : ◌≡◌ {A = ℕ} 0 1 = cc in omega arith)

pub or_left : (a b : Bool) → a ≡ true → a || b ≡ true
or_left a b e = rw e

pub or_right : (a b : Bool) → b ≡ true → a || b ≡ true
or_right true b e = refl
or_right false b e = e

pub or_cases : (a b : Bool) → a || b ≡ true → (a ≡ true) ⊎ (b ≡ true)
or_cases true b e = inl refl
or_cases false b e = inr e

pub neither : (a b : Bool) → a || b ≡ false → (a ≡ false) × (b ≡ false)
neither true b e = absurd (let z : ◌≡◌ {A = ℕ} 0 1 = cc in omega arith)
neither false b e = (refl, e)

pub not_true : (a : Bool) → not a ≡ true → a ≡ false
not_true true e = sym e
not_true false e = refl

pub not_false : (a : Bool) → not a ≡ false → a ≡ true
not_false true e = refl
not_false false e = sym e

pub clash : {a : Bool} → a ≡ true → a ≡ false → ⊥
clash {a} p q = let z : ◌≡◌ {A = ℕ} 0 1 = cc in omega arith

pub so_false : (a : Bool) → (a ≡ true → ⊥) → a ≡ false
so_false true f = absurd (f refl)
so_false false f = refl

pub true_or_false : (a : Bool) → (a ≡ true) ⊎ (a ≡ false)
true_or_false true = inl refl
true_or_false false = inr refl

-- some number passes
module _ (t : ℕ → Bool) where
  pub any_of : (n i : ℕ) → i < n → t i ≡ true → any n t ≡ true
  any_of zero i h e = absurd (omega arith)
  any_of (suc n) i h e = elim (dec_lt i n) [
    | yes p ↦ or_left (any n t) (t n) (any_of n i p e)
    | no p ↦ let q : i ≡ n = omega arith in or_right (any n t) (t n) (rw q at e)
  ]

  pub any_some : (n : ℕ) → any n t ≡ true → (i : ℕ) × (i < n) × (t i ≡ true)
  any_some zero e = absurd (let z : ◌≡◌ {A = ℕ} 0 1 = cc in omega arith)
  any_some (suc n) e = elim (or_cases (any n t) (t n) e) [
    | inl p ↦ let z = any_some n p in (z.0, omega (arith, z.1), z.2)
    | inr p ↦ (n, omega arith, p)
  ]

-- the largest is at least each, and is one of them
module _ (f : ℕ → ℕ) where
  pub largest_most : (n i : ℕ) → i < n → f i ≤ largest n f
  largest_most zero i h = absurd (omega arith)
  largest_most (suc n) i h = elim (dec_lt i n) [
    | yes p ↦ omega (arith, largest_most n i p)
    | no p ↦ let q : i ≡ n = omega arith in rw q (omega arith)
  ]

  pub largest_one : (n : ℕ) → 0 < n → (i : ℕ) × (i < n) × (f i ≡ largest n f)
  largest_one zero h = absurd (omega arith)
  largest_one (suc n) h = elim (dec_lt (f n) (largest n f)) [
    | yes p ↦ elim (dec_lt 0 n) [
      | yes k ↦ let z = largest_one n k in (z.0, omega (arith, z.1), omega (arith, z.2))
      | no k ↦ let q : n ≡ 0 = omega arith in absurd (none_less n q p)
    ]
    | no p ↦ (n, omega arith, omega arith)
  ]
    where
      none_less : (m : ℕ) → m ≡ 0 → f m < largest m f → ⊥
      none_less zero e k = omega arith
      none_less (suc m) e k = omega arith

-- what is counted
pub counted_le : (a : Bool) (c : ℕ) → counted a c ≤ c
counted_le true c = omega arith
counted_le false c = omega arith

pub counted_pos : (a : Bool) (c : ℕ) → 0 < counted a c → (a ≡ true) × (0 < c)
counted_pos true c h = (refl, h)
counted_pos false c h = absurd (omega arith)

pub counted_mono : (a b : Bool) (c : ℕ) → (a ≡ true → b ≡ true) → counted a c ≤ counted b c
counted_mono true b c f = rw (f refl) (omega arith)
counted_mono false b c f = omega arith

-- 1 where the test passes, and 0 elsewhere
abbrev pub bit : Bool → ℕ
bit a = counted a 1

-- what `lowest` finds
pub data Lowest (m : ℕ) (t : ℕ → Bool) (r : ℕ) : Type 0 where
  found : r < m → t r ≡ true → ((j : ℕ) → j < r → t j ≡ false) → Lowest m t r
  nothing : r ≡ no_segment → ((j : ℕ) → j < m → t j ≡ false) → Lowest m t r

module _ (t : ℕ → Bool) where
  lowest_step : (m r : ℕ) (a b : Bool) → eqb r no_segment ≡ a → t m ≡ b → m < no_segment → Lowest m t r → Lowest (suc m) t (only (a && b) (λ _. m) r)
  lowest_step m r true b e f h (found p q s) = absurd (omega (arith, eqb-true r no_segment e))
  lowest_step m r false b e f h (found p q s) = found (omega arith) q s
  lowest_step m r true true e f h (nothing p s) = found (omega arith) f s
  lowest_step m r true false e f h (nothing p s) = nothing p below
    where
      below : (j : ℕ) → j < suc m → t j ≡ false
      below j k = elim (dec_lt j m) [ yes z ↦ s j z | no z ↦ let y : j ≡ m = omega arith in rw y f ]
  lowest_step m r false b e f h (nothing p s) = absurd (eqb-false r no_segment e p)

  pub lowest_is : (m : ℕ) → m ≤ no_segment → Lowest m t (lowest m t)
  lowest_is zero h = nothing refl (λ j k. absurd (omega arith))
  lowest_is (suc m) h = lowest_step m (lowest m t) (eqb (lowest m t) no_segment) (t m) refl refl h (lowest_is m (omega arith))
