-- Among two posts or more there is a smallest ratio of any post but the source, by cross products (`some_smallest`). Rests on nothing but its definition.
use mathlib.Core.Path.{◌≡◌, sym, ap, ◌∙◌}
use mathlib.Core.Logic.{◌⊎◌, inl, inr}
use Prim.Native.Nat.{ℕ, zero, suc, ◌*◌, ◌≤◌, ◌<◌}
use native.Mathlib.Omega.{arith}
use native.Mathlib.Nat.{mul-le-mul_right, le_of_mul-le-mul_left, mul_assoc, mul_comm, le_refl}
use native.Mathlib.Decide.{dec_lt, ℕ_discrete}
use Rattle.net.specs.Building.{Smallest}

module _ (p q : ℕ → ℕ) (s : ℕ) where
  -- a ≤ b and b ≤ c, by cross products, where b's q is not 0
  cross : (a b c : ℕ) → 1 ≤ q b → p a * q b ≤ p b * q a → p b * q c ≤ p c * q b → p a * q c ≤ p c * q a
  cross a b c h x y =
      le_of_mul-le-mul_left {k = q b}
      (omega (
        arith,
        mul-le-mul_right (q c) x,
        mul-le-mul_right (q a) y,
        mul_comm (q b) (p a * q c),
        mul_comm (q b) (p c * q a),
        swap (p a) (q c) (q b),
        swap (p b) (q a) (q c),
        swap (p c) (q a) (q b),
      ))
      h
    where
      swap : (x y z : ℕ) → x * y * z ≡ x * z * y
      swap x y z = mul_assoc x y z ∙ ap (λ (k : ℕ). x * k) (mul_comm y z) ∙ sym (mul_assoc x z y)

  -- of the first m posts one is the smallest, or all of them are the source
  least_of : (m : ℕ) → ((u : ℕ) → u < m → (u ≡ s → ⊥) → 1 ≤ q u) → ((v : ℕ) × Smallest p q m s v) ⊎ ((u : ℕ) → u < m → u ≡ s)
  least_of zero pos = inr (λ u h. absurd (omega arith))
  least_of (suc m) pos = elim (ℕ_discrete m s) [
    | yes e ↦ elim (least_of m (λ u h. pos u (omega arith))) [
      | inl z ↦ inl (z.0, record { is_post = let k = z.1.is_post in omega arith; not_source = z.1.not_source; no_smaller = λ u h ne. z.1.no_smaller u (last u h (λ k. ne (k ∙ e))) ne })
      | inr f ↦ inr (λ u h. elim (ℕ_discrete u m) [ yes k ↦ k ∙ e | no k ↦ f u (last u h k) ])
    ]
    | no e ↦ elim (least_of m (λ u h. pos u (omega arith))) [
      | inl z ↦ elim (dec_lt (p m * q z.0) (p z.0 * q m)) [
        | yes k ↦ inl (
          m,
          record {
            is_post = omega arith;
            not_source = e;
            no_smaller = λ u h ne. elim (ℕ_discrete u m) [
              | yes d ↦ rw d (le_refl (p m * q m))
              | no d ↦ cross m z.0 u (let i = z.1.is_post in pos z.0 (omega arith) z.1.not_source) (omega arith) (z.1.no_smaller u (last u h d) ne)
            ];
          },
        )
        | no k ↦ inl (
          z.0,
          record {
            is_post = let i = z.1.is_post in omega arith;
            not_source = z.1.not_source;
            no_smaller = λ u h ne. elim (ℕ_discrete u m) [
              | yes d ↦ rw d (omega arith)
              | no d ↦ z.1.no_smaller u (last u h d) ne
            ];
          },
        )
      ]
      | inr f ↦ inl (
        m,
        record {
          is_post = omega arith;
          not_source = e;
          no_smaller = λ u h ne. elim (ℕ_discrete u m) [
            | yes d ↦ rw d (le_refl (p m * q m))
            | no d ↦ absurd (ne (f u (last u h d)))
          ];
        },
      )
    ]
  ]
    where
      last : (u : ℕ) → u < suc m → (u ≡ m → ⊥) → u < m
      last u h ne = elim (dec_lt u m) [ yes k ↦ k | no k ↦ absurd (ne (omega arith)) ]

  -- two posts or more have one
  pub some_smallest : (n : ℕ) → 2 ≤ n → ((u : ℕ) → u < n → (u ≡ s → ⊥) → 1 ≤ q u) → (v : ℕ) × Smallest p q n s v
  some_smallest n two pos = elim (least_of n pos) [
    | inl z ↦ z
    | inr f ↦ absurd (let a = f 0 (omega arith) in let b = f 1 (omega arith) in omega arith)
  ]
