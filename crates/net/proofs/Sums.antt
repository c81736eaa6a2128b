-- Laws of sums over the numbers below n.
use mathlib.Core.Path.{◌≡◌, refl, sym, ap, ◌∙◌}
use Prim.Native.Nat.{ℕ, zero, suc, ◌+◌, ◌*◌, ◌≤◌, ◌<◌}
use native.Mathlib.Omega.{arith}
use native.Mathlib.Decide.{dec_lt, ℕ_discrete}
use native.Mathlib.Nat.{add-mul, zero-mul, suc-mul}
use Rattle.net.specs.Words.{sum}

pub sum_le : (n : ℕ) (f h : ℕ → ℕ) → ((i : ℕ) → i < n → f i ≤ h i) → sum n f ≤ sum n h
sum_le zero f h k = omega arith
sum_le (suc n) f h k = omega (arith, sum_le n f h (λ i p. k i (omega arith)), k n (omega arith))

pub sum_lt : (n : ℕ) (f h : ℕ → ℕ) → ((i : ℕ) → i < n → f i ≤ h i) → (j : ℕ) → j < n → f j < h j → sum n f < sum n h
sum_lt zero f h k j p q = absurd (omega arith)
sum_lt (suc n) f h k j p q = elim (dec_lt j n) [
  | yes r ↦ omega (arith, sum_lt n f h (λ i z. k i (omega arith)) j r q, k n (omega arith))
  | no r ↦ let e : j ≡ n = omega arith in omega (arith, sum_le n f h (λ i z. k i (omega arith)), rw e at q)
]

pub sum_ones : (n : ℕ) → sum n (λ _. 1) ≡ n
sum_ones zero = refl
sum_ones (suc n) = omega (arith, sum_ones n)

pub sum_zeros : (n : ℕ) → sum n (λ _. 0) ≡ 0
sum_zeros zero = refl
sum_zeros (suc n) = omega (arith, sum_zeros n)

pub sum_add : (n : ℕ) (f h : ℕ → ℕ) → sum n (λ i. f i + h i) ≡ sum n f + sum n h
sum_add zero f h = refl
sum_add (suc n) f h = omega (arith, sum_add n f h)

pub sum_swap : (n m : ℕ) (f : ℕ → ℕ → ℕ) → sum n (λ i. sum m (λ j. f i j)) ≡ sum m (λ j. sum n (λ i. f i j))
sum_swap zero m f = sym (sum_zeros m)
sum_swap (suc n) m f = ap (λ (x : ℕ). x + sum m (λ j. f n j)) (sum_swap n m f) ∙ sym (sum_add m (λ j. sum n (λ i. f i j)) (λ j. f n j))

pub sum_one_of : (n : ℕ) (f : ℕ → ℕ) (i : ℕ) → i < n → f i ≤ sum n f
sum_one_of zero f i h = absurd (omega arith)
sum_one_of (suc n) f i h = elim (dec_lt i n) [
  | yes p ↦ omega (arith, sum_one_of n f i p)
  | no p ↦ let e : i ≡ n = omega arith in rw e (omega arith)
]

-- where all but one are 0
pub sum_only : (n : ℕ) (f : ℕ → ℕ) (c : ℕ) → ((i : ℕ) → i < n → f i ≤ c) → ((i j : ℕ) → i < n → j < n → i < j → 0 < f i → f j ≡ 0) → sum n f ≤ c
sum_only zero f c k o = omega arith
sum_only (suc n) f c k o = elim (dec_lt 0 (f n)) [
  | yes p ↦ omega (arith, k n (omega arith), sum_le n f (λ _. 0) (λ i h. less i h p), sum_zeros n)
  | no p ↦ omega (arith, sum_only n f c (λ i h. k i (omega arith)) (λ i j a b. o i j (omega arith) (omega arith)))
]
  where
    less : (i : ℕ) → i < n → 0 < f n → f i ≤ 0
    less i h p = elim (dec_lt 0 (f i)) [
      | yes q ↦ omega (arith, o i n (omega arith) (omega arith) h q)
      | no q ↦ omega arith
    ]

-- one term changed
pub sum_change : (n : ℕ) (f h : ℕ → ℕ) (v : ℕ) → ((x : ℕ) → x < n → (x ≡ v → ⊥) → h x ≤ f x) → sum n h ≤ sum n f + h v
sum_change zero f h v k = omega arith
sum_change (suc n) f h v k = elim (ℕ_discrete n v) [
  | yes e ↦ omega (arith, sum_le n h f (λ i p. k i (omega arith) (λ q. omega arith)), ap h e)
  | no e ↦ omega (arith, sum_change n f h v (λ i p. k i (omega arith)), k n (omega arith) e)
]

pub sum_some : (n : ℕ) (f : ℕ → ℕ) → 0 < sum n f → (i : ℕ) × (i < n) × (0 < f i)
sum_some zero f h = absurd (omega arith)
sum_some (suc n) f h = elim (dec_lt 0 (f n)) [
  | yes p ↦ (n, omega arith, p)
  | no p ↦ let z = sum_some n f (omega arith) in (z.0, omega (arith, z.1), z.2)
]

pub sum_mul : (n : ℕ) (f : ℕ → ℕ) (c : ℕ) → sum n (λ i. f i * c) ≡ sum n f * c
sum_mul zero f c = sym (zero-mul c)
sum_mul (suc n) f c = omega (arith, sum_mul n f c, add-mul (sum n f) (f n) c)

-- no term above c
pub sum_most : (n c : ℕ) (f : ℕ → ℕ) → ((i : ℕ) → i < n → f i ≤ c) → sum n f ≤ n * c
sum_most zero c f h = omega arith
sum_most (suc n) c f h = omega (arith, sum_most n c f (λ i k. h i (omega arith)), h n (omega arith), suc-mul n c)

-- one term lowered by c
pub sum_drop : (n : ℕ) (f h : ℕ → ℕ) (v c : ℕ) → v < n → ((x : ℕ) → x < n → (x ≡ v → ⊥) → h x ≤ f x) → h v + c ≤ f v → sum n h + c ≤ sum n f
sum_drop zero f h v c p k e = absurd (omega arith)
sum_drop (suc n) f h v c p k e = elim (ℕ_discrete n v) [
  | yes q ↦ omega (arith, sum_le n h f (λ i z. k i (omega arith) (λ y. omega arith)), ap h q, ap f q)
  | no q ↦ omega (arith, sum_drop n f h v c (lt_of n v p q) (λ i z. k i (omega arith)) e, k n (omega arith) q)
]
  where
    lt_of : (m w : ℕ) → w < suc m → (m ≡ w → ⊥) → w < m
    lt_of m w a b = elim (dec_lt w m) [ yes z ↦ z | no z ↦ absurd (b (omega arith)) ]
