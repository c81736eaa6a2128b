-- A leg by its value alone: `up_to` in the words of `RoundsTo`, `measured` at each of its cases, and at two fractions that are equal.
-- Rests on `lib.Ieee`'s `HasValue`. `Fields` and `Rules` cite it. Assumes nothing.
use mathlib.Core.Path.{◌≡◌, refl, sym, ap, ◌∙◌, subst}
use mathlib.Core.Logic.{inl, inr}
use mathlib.Core.Bool.{Bool, true, false}
use Prim.Native.Nat.{ℕ, ◌+◌, ◌*◌, ◌/◌, ◌%◌, ◌≤◌, ◌<◌}
use native.Mathlib.Nat.{mul_assoc, mul_right_comm, mul-pos, mul-mod_left, div-add-mod', mod-lt, lt_of_mul-lt-mul_right, eq-zero-or-pos, zero-mul, eq_of_mul-eq-mul_right, add-zero}
use native.Mathlib.Omega.{arith}
use lib.Dec.{ltb, eqb}
use lib.Ieee.{Float, nan, inf, fin, up, down}
use lib.Ieee.Fits.{down_pos}
use lib.Ieee.Exact.{HasValue}
use lib.Ieee.Nearest.{div_same}
use borrow.Author.Tests.{lt-ltb, le-ltb, ne_eqb}
use Rattle.std.specs.Prelude.{Ok, Err}
use Rattle.drawn.specs.Drawn.{most, up_to, measured, the_leg_of}

-- ---- each case

pub measured_below_zero : (n d : ℕ) → 0 < n → measured true n d ≡ Err 14
measured_below_zero n d h = simp (lt-ltb 0 n h)

pub measured_zero : (s : Bool) (d : ℕ) → measured s 0 d ≡ Err 15
measured_zero true d = refl
measured_zero false d = refl

pub pos_ne : (n : ℕ) → 0 < n → n ≡ 0 → ⊥
pos_ne n h e = omega arith

pub measured_too_long : (n d : ℕ) → 0 < n → most < up_to n d → measured false n d ≡ Err 17
measured_too_long n d h k = simp (ne_eqb n 0 (pos_ne n h), lt-ltb most (up_to n d) k)

pub measured_good : (n d k : ℕ) → 0 < n → up_to n d ≡ k → k ≤ most → measured false n d ≡ Ok k
measured_good n d k h e l = simp (ne_eqb n 0 (pos_ne n h), e, le-ltb most k l)

-- ---- rounding up

at_zero : (r : ℕ) → r ≡ 0 → r ≤ 0
at_zero r e = omega arith

-- nothing is left over
pub up_whole : (n d : ℕ) → n % d ≡ 0 → up_to n d ≡ n / d
up_whole n d r = simp (le-ltb 0 (n % d) (at_zero (n % d) r)) (add-zero (n / d))

-- something is
pub up_more : (n d : ℕ) → 0 < n % d → up_to n d ≡ n / d + 1
up_more n d r = simp (lt-ltb 0 (n % d) r)

pub up_ge : (n d : ℕ) → n / d ≤ up_to n d
up_ge n d = omega arith

-- n rounded up to a multiple of d is at least n, and less than d above it
pub up_bounds : (n d : ℕ) → 0 < d → (n ≤ up_to n d * d) × (up_to n d * d < n + d)
up_bounds n d D =
    let q = n / d in
    let r = n % d in
    let e : q * d + r ≡ n = div-add-mod' n d in
    let s : r < d = mod-lt n D in
    elim (eq-zero-or-pos r) [
      | inl z ↦ subst (λ (y : ℕ). (n ≤ y * d) × (y * d < n + d)) (sym (up_whole n d z)) (omega arith, omega arith)
      | inr p ↦ subst (λ (y : ℕ). (n ≤ y * d) × (y * d < n + d)) (sym (up_more n d p)) (omega arith, omega arith)
    ]

same_number : (a b : ℕ) → a < b + 1 → b < a + 1 → a ≡ b
same_number a b h k = omega arith

-- and no other multiple is
pub up_only : (n d k : ℕ) → 0 < d → n ≤ k * d → k * d < n + d → up_to n d ≡ k
up_only n d k D lo hi =
    let u = up_bounds n d D in
    same_number (up_to n d) k (times_under (up_to n d) k u.1 lo) (times_under k (up_to n d) hi u.0)
  where
    below : (x y : ℕ) → x < n + d → n ≤ y → x < y + d
    below x y h g = omega arith

    times_under : (a b : ℕ) → a * d < n + d → n ≤ b * d → a < b + 1
    times_under a b h g = lt_of_mul-lt-mul_right d {m = a} {n = b + 1} (omega (arith, below (a * d) (b * d) h g))

-- ---- only the fraction counts

rest_same : (n d n' d' : ℕ) → 0 < d → 0 < d' → n * d' ≡ n' * d → n % d ≡ 0 → n' % d' ≡ 0
rest_same n d n' d' D D' e z =
    let q = n / d in
    let f : n ≡ q * d = sym (div-add-mod' n d) ∙ ap (λ (x : ℕ). q * d + x) z ∙ add-zero (q * d) in
    let g : n' ≡ q * d' = eq_of_mul-eq-mul_right d D n' (q * d') (sym e ∙ ap (λ (x : ℕ). x * d') f ∙ mul_right_comm q d d') in
    ap (λ (x : ℕ). x % d') g ∙ mul-mod_left q d'

zero_same : (n d n' d' : ℕ) → 0 < d → 0 < d' → n * d' ≡ n' * d → n ≡ 0 → n' ≡ 0
zero_same n d n' d' D D' e z = elim (eq-zero-or-pos n') [
  | inl g ↦ g
  | inr p ↦ absurd (pos_ne (n' * d) (mul-pos p D) (sym e ∙ ap (λ (x : ℕ). x * d') z ∙ zero-mul d'))
]

same_tests : (a b : ℕ) → (a ≡ 0 → b ≡ 0) → (b ≡ 0 → a ≡ 0) → (ltb 0 a ≡ ltb 0 b) × (eqb a 0 ≡ eqb b 0)
same_tests a b f g = elim (eq-zero-or-pos a) [
  | inl z ↦ (ap (λ (x : ℕ). ltb 0 x) (z ∙ sym (f z)), ap (λ (x : ℕ). eqb x 0) (z ∙ sym (f z)))
  | inr p ↦
      let q : 0 < b = elim (eq-zero-or-pos b) [ inl z ↦ absurd (pos_ne a p (g z)) | inr q ↦ q ] in
      (lt-ltb 0 a p ∙ sym (lt-ltb 0 b q), ne_eqb a 0 (pos_ne a p) ∙ sym (ne_eqb b 0 (pos_ne b q)))
]

measured_same : (s : Bool) (n d n' d' : ℕ) → 0 < d → 0 < d' → n * d' ≡ n' * d → measured s n d ≡ measured s n' d'
measured_same s n d n' d' D D' e =
    let z = same_tests n n' (zero_same n d n' d' D D' e) (zero_same n' d' n d D' D (sym e)) in
    let r = same_tests (n % d) (n' % d') (rest_same n d n' d' D D' e) (rest_same n' d' n d D' D (sym e)) in
    let k : n / d ≡ n' / d' = div_same n d n' d' D D' e in
    rw (z.0, z.1, r.0, k)

-- so a leg goes by its value, however that is written as a fraction
pub leg_value : (x : Float) (s : Bool) (a c : ℕ) → 0 < c → HasValue x s a c → the_leg_of x ≡ measured s (16 * a) c
unfolding the_leg_of
leg_value nan s a c C v = absurd v
leg_value (inf t) s a c C v = absurd v
leg_value (fin t m e) s a c C v =
    ap (λ (b : Bool). measured b (16 * (m * up e)) (down e)) v.0
    ∙ measured_same s (16 * (m * up e)) (down e) (16 * a) c (down_pos e) C
    (mul_assoc 16 (m * up e) c ∙ ap (λ (x : ℕ). 16 * x) v.1 ∙ sym (mul_assoc 16 a (down e)))
