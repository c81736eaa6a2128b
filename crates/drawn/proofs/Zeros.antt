-- The zeros at a number's end, and when m * 2 ^ j is a multiple of 2 ^ l. Numbers only: no float and no code. Assumes nothing.
use mathlib.Core.Path.{◌≡◌, refl, sym, ap, ◌∙◌, subst}
use mathlib.Core.Logic.{inl, inr}
use Prim.Native.Nat.{ℕ, zero, suc, ◌+◌, ◌-◌, ◌*◌, ◌/◌, ◌%◌, ◌^◌, ◌≤◌, ◌<◌}
use native.Mathlib.Nat.{mul-one, mul_assoc, mul_left_comm, mul-mod_left, div-add-mod', div-one, div-div-eq-div-mul, div-lt_iff_lt-mul, eq-zero-or-pos, pow-suc, pow-succ', zero-lt-suc, zero-mul, lt_irrefl, lt_of_le_of_lt, lt_of_lt_of_le, lt_of_not-le, eq_of_mul-eq-mul_right, add-zero}
use native.Mathlib.Omega.{arith}
use lib.Pow.{pow-add, pow_pos, pow_mono}
use lib.Count.{count_trailing_zeros, under}

whole : (n : ℕ) → n / 1 * 1 ≡ n
whole n = mul-one (n / 1) ∙ div-one n

twice_half : (n : ℕ) → n % 2 ≡ 0 → 2 * (n / 2) ≡ n
twice_half n e = omega arith

-- a number is a multiple of 2 to the count of its zeros
pub zeros_div : (d n : ℕ) → n / 2 ^ count_trailing_zeros d n * 2 ^ count_trailing_zeros d n ≡ n
unfolding count_trailing_zeros
zeros_div zero n = whole n
zeros_div (suc d) n = go (n % 2) refl (zeros_div d (n / 2))
  where
    go : (r : ℕ) → n % 2 ≡ r → n / 2 / 2 ^ count_trailing_zeros d (n / 2) * 2 ^ count_trailing_zeros d (n / 2) ≡ n / 2
        → n / 2 ^ under r (count_trailing_zeros d (n / 2)) * 2 ^ under r (count_trailing_zeros d (n / 2)) ≡ n
    go zero e ih =
        let t = count_trailing_zeros d (n / 2) in
        ap (λ (x : ℕ). n / x * x) (pow-succ' 2 t)
        ∙ ap (λ (x : ℕ). x * (2 * 2 ^ t)) (sym (div-div-eq-div-mul n 2 (2 ^ t)))
        ∙ mul_left_comm (n / 2 / 2 ^ t) 2 (2 ^ t)
        ∙ ap (λ (x : ℕ). 2 * x) ih
        ∙ twice_half n e
    go (suc r) e ih = whole n

half_pos : (q : ℕ) → 0 < q → q % 2 ≡ 0 → 0 < q / 2
half_pos q h e = omega arith

is_one : (q r : ℕ) → q % 2 ≡ suc r → q % 2 ≡ 1
is_one q r e = omega arith

none_below_one : (q : ℕ) → 0 < q → q < 1 → ⊥
none_below_one q h k = omega arith

-- without those zeros it is odd
pub zeros_odd : (d q : ℕ) → 0 < q → q < 2 ^ d → q / 2 ^ count_trailing_zeros d q % 2 ≡ 1
unfolding count_trailing_zeros
zeros_odd zero q h k = absurd (none_below_one q h k)
zeros_odd (suc d) q h k =
    go (q % 2) refl
    (λ (e : q % 2 ≡ 0). zeros_odd d (q / 2) (half_pos q h e) ((div-lt_iff_lt-mul (zero-lt-suc 1)).1 (subst (λ (x : ℕ). q < x) (pow-suc 2 d) k)))
  where
    go : (r : ℕ) → q % 2 ≡ r → (q % 2 ≡ 0 → q / 2 / 2 ^ count_trailing_zeros d (q / 2) % 2 ≡ 1) → q / 2 ^ under r (count_trailing_zeros d (q / 2)) % 2 ≡ 1
    go zero e ih =
        let t = count_trailing_zeros d (q / 2) in
        ap (λ (x : ℕ). x % 2) (ap (λ (x : ℕ). q / x) (pow-succ' 2 t) ∙ sym (div-div-eq-div-mul q 2 (2 ^ t))) ∙ ih e
    go (suc r) e ih = ap (λ (x : ℕ). x % 2) (div-one q) ∙ is_one q r e

pow_lt_back : (i p : ℕ) → 2 ^ i < 2 ^ p → i < p
pow_lt_back i p h = lt_of_not-le (λ (g : p ≤ i). lt_irrefl (2 ^ i) (lt_of_lt_of_le h (pow_mono g)))

times_le : (a p : ℕ) → 0 < a * p → p ≤ a * p
times_le zero p h = absurd (lt_irrefl 0 (subst (λ (x : ℕ). 0 < x) (zero-mul p) h))
times_le (suc a) p h = omega arith

-- a number below 2 ^ p that is not 0 ends in fewer than p zeros
pub zeros_lt : (d q p : ℕ) → 0 < q → q < 2 ^ p → count_trailing_zeros d q < p
zeros_lt d q p h k =
    let z = count_trailing_zeros d q in
    let e = zeros_div d q in
    pow_lt_back z p (lt_of_le_of_lt (subst (λ (x : ℕ). 2 ^ z ≤ x) e (times_le (q / 2 ^ z) (2 ^ z) (subst (λ (x : ℕ). 0 < x) (sym e) h))) k)

back : (a l : ℕ) → l ≤ a → a - l + l ≡ a
back a l h = omega arith

-- m * 2 ^ j is a multiple of 2 ^ l where l is at most j
pub pow_multiple : (m j l : ℕ) → l ≤ j → m * 2 ^ j % 2 ^ l ≡ 0
pow_multiple m j l h =
    ap (λ (x : ℕ). x % 2 ^ l)
    (ap (λ (x : ℕ). m * 2 ^ x) (sym (back j l h))
    ∙ ap (λ (x : ℕ). m * x) (pow-add 2 (j - l) l)
    ∙ sym (mul_assoc m (2 ^ (j - l)) (2 ^ l)))
    ∙ mul-mod_left (m * 2 ^ (j - l)) (2 ^ l)

even_odd : (m t : ℕ) → m % 2 ≡ 1 → m ≡ t * 2 → ⊥
even_odd m t o h = omega arith

split_at : (j l : ℕ) → j < l → l ≡ l - suc j + suc j
split_at j l h = omega arith

-- and for an odd m nowhere else
pub pow_no_multiple : (m j l : ℕ) → m % 2 ≡ 1 → j < l → 0 < m * 2 ^ j % 2 ^ l
pow_no_multiple m j l o h = elim (eq-zero-or-pos (m * 2 ^ j % 2 ^ l)) [
  | inr p ↦ p
  | inl z ↦
      let c = m * 2 ^ j / 2 ^ l in
      let i = l - suc j in
      let e : m * 2 ^ j ≡ c * 2 ^ l = sym (div-add-mod' (m * 2 ^ j) (2 ^ l)) ∙ ap (λ (x : ℕ). c * 2 ^ l + x) z ∙ add-zero (c * 2 ^ l) in
      let p : 2 ^ l ≡ 2 ^ i * 2 * 2 ^ j =
      ap (λ (x : ℕ). 2 ^ x) (split_at j l h) ∙ pow-add 2 i (suc j) ∙ ap (λ (x : ℕ). 2 ^ i * x) (pow-succ' 2 j) ∙ sym (mul_assoc (2 ^ i) 2 (2 ^ j)) in
      absurd
      (even_odd m (c * 2 ^ i) o
      (eq_of_mul-eq-mul_right (2 ^ j) (pow_pos j) m (c * 2 ^ i * 2)
      (e ∙ ap (λ (x : ℕ). c * x) p ∙ sym (mul_assoc c (2 ^ i * 2) (2 ^ j)) ∙ ap (λ (x : ℕ). x * 2 ^ j) (sym (mul_assoc c (2 ^ i) 2)))))
]
