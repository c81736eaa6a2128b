-- `drawn_of` says what the rules of `specs/Rules.antt` say: every run has an answer by the rules (`drawn_answers`), and it has no
-- other (`drawn_only`). So two answers that the rules allow are equal (`same_answer`), and so are two outcomes that the contract of
-- `drawn` allows (`same_outcome`). A refusal has one of four numbers, and not 16 (`drawn_refused_with`). Rests on Measured. Assumes nothing.
use mathlib.Core.Path.{◌≡◌, refl, sym, ap, ap₂, ◌∙◌, subst}
use mathlib.Core.Logic.{◌⊎◌, inl, inr}
use mathlib.Core.Bool.{Bool, true, false, not}
use Prim.Native.Nat.{ℕ, ◌+◌, ◌*◌, ◌≤◌, ◌<◌}
use native.Mathlib.Nat.{mul-pos, zero-mul, mul-le-mul_right, eq-zero-or-pos, zero-lt-suc}
use native.Mathlib.Omega.{arith}
use lib.IntN.{ℤ}
use lib.Dec.{T, leb, leb→le, nleb→lt}
use lib.Ieee.{Float, nan, inf, fin, up, down}
use lib.Ieee.Fits.{up_pos, down_pos}
use borrow.Author.Tests.{le-leb, lt-leb}
use Rattle.std.specs.Prelude.{Ok, Err}
use Rattle.drawn.specs.Drawn.{most, up_to, measured, the_leg_of, refusal, straight_of, corner_of, drawn_of, Answer, Leg}
use Rattle.drawn.specs.Says.{Says, sixteenths, refused, says_of, leg_says}
use Rattle.drawn.specs.Rules.{RoundsTo, Means, not_a_number, infinite, below_zero, is_zero, too_long, good, Answers, straight, first_refused, second_refused, together, corner, RefusedWith}
use Rattle.drawn.specs.declared.Run.{Run}
use Rattle.drawn.specs.declared.Run.TheVariants.{Straight, Corner}
use Rattle.drawn.proofs.Measured.{measured_below_zero, measured_zero, measured_too_long, measured_good, up_bounds, up_only}

le_or_lt : (a b : ℕ) → (a ≤ b) ⊎ (b < a)
le_or_lt a b = go (leb a b) (leb→le a b) (nleb→lt a b)
  where
    go : (t : Bool) → (T t → a ≤ b) → (T (not t) → b < a) → (a ≤ b) ⊎ (b < a)
    go true f g = inl (f tt)
    go false f g = inr (g tt)

-- ---- one leg, m * 2 ^ e millimetres: its sixteenths, rounded up

module _ (m : ℕ) (e : ℤ) where
  abbrev over : ℕ
  over = 16 * (m * up e)

  positive : 0 < m → 0 < over
  positive h = mul-pos (zero-lt-suc 15) (mul-pos h (up_pos e))

  zero_over : m ≡ 0 → over ≡ 0
  zero_over z = ap (λ (y : ℕ). 16 * y) (ap (λ (y : ℕ). y * up e) z ∙ zero-mul (up e))

  -- what they are rounded up to is what is computed, and the other way round
  rounds_only : (k : ℕ) → RoundsTo m e k → up_to over (down e) ≡ k
  rounds_only k h = up_only over (down e) k (down_pos e) h.reaches h.least

  rounds_up : RoundsTo m e (up_to over (down e))
  rounds_up = let b = up_bounds over (down e) (down_pos e) in record { reaches = b.0; least = b.1 }

  too_far : (k : ℕ) → 0 < k → k * down e < over + down e → over ≡ 0 → ⊥
  too_far k p h z = omega (arith, mul-le-mul_right (down e) p)

  -- a whole number above 0 comes of a length above 0
  rounded_pos : (k : ℕ) → RoundsTo m e k → 0 < k → 0 < over
  rounded_pos k h p = elim (eq-zero-or-pos over) [ inl z ↦ absurd (too_far k p h.least z) | inr q ↦ q ]

  none : (k : ℕ) → 0 < over → over ≤ k * down e → k * down e ≡ 0 → ⊥
  none k h g z = omega arith

  -- and a length above 0 is rounded up to one
  rounds_pos : (k : ℕ) → 0 < m → RoundsTo m e k → 0 < k
  rounds_pos k p h = elim (eq-zero-or-pos k) [
    | inl z ↦ absurd (none k (positive p) h.reaches (ap (λ (y : ℕ). y * down e) z ∙ zero-mul (down e)))
    | inr q ↦ q
  ]

most_pos : (k : ℕ) → most < k → 0 < k
most_pos k h = omega arith

-- what the rules allow a leg to say is what it comes to
pub means_only : {p : ℕ} {x : Float} {s : Says} → Means p x s → leg_says p (the_leg_of x) ≡ s
unfolding the_leg_of
means_only not_a_number = refl
means_only infinite = refl
means_only {p} (below_zero {m} {e} h) = ap (leg_says p) (measured_below_zero (over m e) (down e) (positive m e h))
means_only {p} (is_zero {s} {m} {e} z) = ap (λ (y : ℕ). leg_says p (measured s y (down e))) (zero_over m e z) ∙ ap (leg_says p) (measured_zero s (down e))
means_only {p} (too_long {m} {e} k h b) =
    ap (leg_says p)
    (measured_too_long (over m e) (down e) (rounded_pos m e k h (most_pos k b)) (subst (λ (y : ℕ). most < y) (sym (rounds_only m e k h)) b))
means_only {p} (good {m} {e} {k} h q b) = ap (leg_says p) (measured_good (over m e) (down e) k (rounded_pos m e k h q) (rounds_only m e k h) b)

-- some rule holds of each float
some_rule : (p : ℕ) (x : Float) → (s : Says) × Means p x s
some_rule p nan = (_, not_a_number)
some_rule p (inf s) = (_, infinite)
some_rule p (fin true m e) = elim (eq-zero-or-pos m) [ inl z ↦ (_, is_zero z) | inr q ↦ (_, below_zero q) ]
some_rule p (fin false m e) = elim (eq-zero-or-pos m) [
  | inl z ↦ (_, is_zero z)
  | inr q ↦
      let k = up_to (over m e) (down e) in
      let h = rounds_up m e in
      elim (le_or_lt k most) [ inl b ↦ (_, good h (rounds_pos m e k q h) b) | inr b ↦ (_, too_long k h b) ]
]

pub leg_means : (p : ℕ) (x : Float) → Means p x (leg_says p (the_leg_of x))
leg_means p x = let s = some_rule p x in subst (λ (l : Says). Means p x l) (sym (means_only s.1)) s.1

-- ---- a run

straight_says : (a : Leg) → says_of (straight_of a) ≡ leg_says 0 a
straight_says (Ok k) = refl
straight_says (Err n) = refl

first_says : (a b : Leg) (n p : ℕ) → leg_says 0 a ≡ refused n p → says_of (corner_of a b) ≡ refused n p
first_says (Ok k) b n p h = cc
first_says (Err m) b n p h = h

second_says : (a b : Leg) (k n p : ℕ) → leg_says 0 a ≡ sixteenths k → leg_says 1 b ≡ refused n p → says_of (corner_of a b) ≡ refused n p
second_says (Ok j) (Ok l) k n p g h = cc
second_says (Ok j) (Err m) k n p g h = h
second_says (Err m) b k n p g h = cc

-- a leg that says a length is that many sixteenths
is_length : (p : ℕ) (a : Leg) (k : ℕ) → leg_says p a ≡ sixteenths k → a ≡ Ok k
is_length p (Ok j) k h = cc
is_length p (Err n) k h = cc

both_says : (a b : Leg) (k l : ℕ) → leg_says 0 a ≡ sixteenths k → leg_says 1 b ≡ sixteenths l → corner_of a b ≡ corner_of (Ok k) (Ok l)
both_says a b k l g h = rw (is_length 0 a k g, is_length 1 b l h)

-- "it has no other": an answer by the rules is the one that is computed
pub drawn_only : {r : Run} {s : Says} → Answers r s → says_of (drawn_of r) ≡ s
unfolding drawn_of
drawn_only (straight {x} a) = straight_says (the_leg_of x) ∙ means_only a
drawn_only (first_refused {x} {y} {n} {p} a) = first_says (the_leg_of x) (the_leg_of y) n p (means_only a)
drawn_only (second_refused {x} {y} {k} {n} {p} a b) = second_says (the_leg_of x) (the_leg_of y) k n p (means_only a) (means_only b)
drawn_only (together {x} {y} {k} {l} a b h) = ap says_of (both_says (the_leg_of x) (the_leg_of y) k l (means_only a) (means_only b)) ∙ simp (lt-leb (k + l) most h)
drawn_only (corner {x} {y} {k} {l} a b h) = ap says_of (both_says (the_leg_of x) (the_leg_of y) k l (means_only a) (means_only b)) ∙ simp (le-leb (k + l) most h)

corner_rule : (x y : Float) (s t : Says) → Means 0 x s → Means 1 y t → (u : Says) × Answers (Corner x y) u
corner_rule x y (refused n p) t a b = (_, first_refused a)
corner_rule x y (sixteenths k) (refused n p) a b = (_, second_refused a b)
corner_rule x y (sixteenths k) (sixteenths l) a b = elim (le_or_lt (k + l) most) [ inl h ↦ (_, corner a b h) | inr h ↦ (_, together a b h) ]

run_rule : (r : Run) → (s : Says) × Answers r s
run_rule (Straight x) = (_, straight (leg_means 0 x))
run_rule (Corner x y) = corner_rule x y (leg_says 0 (the_leg_of x)) (leg_says 1 (the_leg_of y)) (leg_means 0 x) (leg_means 1 y)

-- "every run has an answer by the rules", the one that is computed
pub drawn_answers : (r : Run) → Answers r (says_of (drawn_of r))
drawn_answers r = let s = run_rule r in subst (λ (a : Says). Answers r a) (sym (drawn_only s.1)) s.1

-- ---- the numbers of its refusals

abbrev SaysRefusedWith : Says → Type 0
SaysRefusedWith (sixteenths k) = Unit {0}
SaysRefusedWith (refused n p) = RefusedWith n

means_refused_with : {p : ℕ} {x : Float} {s : Says} → Means p x s → SaysRefusedWith s
means_refused_with not_a_number = omega arith
means_refused_with infinite = omega arith
means_refused_with (below_zero h) = omega arith
means_refused_with (is_zero z) = omega arith
means_refused_with (too_long k h b) = omega arith
means_refused_with (good h q b) = tt

answers_refused_with : {r : Run} {s : Says} → Answers r s → SaysRefusedWith s
answers_refused_with (straight a) = means_refused_with a
answers_refused_with (first_refused a) = means_refused_with a
answers_refused_with (second_refused a b) = means_refused_with b
answers_refused_with (together a b h) = omega arith
answers_refused_with (corner a b h) = tt

-- a run is refused with 13, 14, 15 or 17
pub drawn_refused_with : (r : Run) {n p : ℕ} → says_of (drawn_of r) ≡ refused n p → RefusedWith n
drawn_refused_with r e = subst SaysRefusedWith e (answers_refused_with (drawn_answers r))

-- ---- one answer

-- the rules allow one answer
pub same_answer : {r : Run} {s t : Says} → Answers r s → Answers r t → s ≡ t
same_answer p q = sym (drawn_only p) ∙ drawn_only q

-- and so does the contract, `a ≡ drawn_of r`
pub same_outcome : (r : Run) (a b : Answer) → a ≡ drawn_of r → b ≡ drawn_of r → a ≡ b
same_outcome r a b p q = p ∙ sym q

-- an answer that the contract allows says what the rules allow
pub outcome_answers : (r : Run) (a : Answer) → a ≡ drawn_of r → Answers r (says_of a)
outcome_answers r a p = subst (λ (b : Answer). Answers r (says_of b)) (sym p) (drawn_answers r)

-- and what the rules allow is what it says
pub outcome_only : (r : Run) (a : Answer) (s : Says) → a ≡ drawn_of r → Answers r s → says_of a ≡ s
outcome_only r a s p q = ap says_of p ∙ drawn_only q

-- two answers that say the same are the same
pub same_says : (a b : Answer) → says_of a ≡ says_of b → a ≡ b
same_says (Ok k) (Ok l) h = cc
same_says (Ok k) (Err s) h = cc
same_says (Err r) (Ok l) h = cc
same_says (Err r) (Err s) h = ap₂ refusal (ap number_of h) (ap place_of h)
  where
    number_of : Says → ℕ
    number_of (sixteenths k) = k
    number_of (refused n p) = n

    place_of : Says → ℕ
    place_of (sixteenths k) = 0
    place_of (refused n p) = p
