-- What a drawn length is, in plain words: where the answer is a length k, the run is above zero and 16 times it, rounded up, is k, 1
-- to 1,048,575; of a corner, k is the sum of both legs' sixteenths. And the other way round. So k is at least 16 times the exact
-- length and less than 1 above it (`straight_within`), for a corner less than 2 (`corner_within`), and a whole number of sixteenths
-- stays what it is (`whole_same`). Rests on Rules. Assumes nothing.
use mathlib.Core.Path.{◌≡◌, refl, sym, ap, ap₂, ◌∙◌, subst}
use mathlib.Core.Bool.{Bool, false}
use Prim.Native.Nat.{ℕ, ◌+◌, ◌*◌, ◌≤◌, ◌<◌}
use native.Mathlib.Nat.{mul_comm, mul_assoc, add-mul, mul-le-mul_right, mul-lt-mul_of_pos_right}
use native.Mathlib.Omega.{arith}
use lib.IntN.{ℤ}
use lib.Ieee.{Float, fin, up, down}
use lib.Ieee.Fits.{down_pos}
use Rattle.std.specs.Prelude.{Ok, Err}
use Rattle.drawn.specs.Drawn.{most, Leg, the_leg_of, at_place, drawn_of}
use Rattle.drawn.specs.Says.{Says, sixteenths, says_of, leg_says}
use Rattle.drawn.specs.Rules.{AreSixteenths, RoundsTo, WithinTwo, Means, good, Answers, straight, corner, Long, BothLong}
use Rattle.drawn.specs.declared.Run.{Run}
use Rattle.drawn.specs.declared.Run.TheVariants.{Straight, Corner}
use Rattle.drawn.proofs.Rules.{leg_means, drawn_answers, drawn_only, same_says}

means_long : {p : ℕ} {x : Float} {k : ℕ} → Means p x (sixteenths k) → Long x k
means_long (good {m} {e} h q b) = record { m = m; e = e; value = refl; rounded = h; some = q; within = b }

long_means : {p : ℕ} {x : Float} {k : ℕ} → Long x k → Means p x (sixteenths k)
long_means {p} {x} {k} h = subst (λ (y : Float). Means p y (sixteenths k)) (sym h.value) (good h.rounded h.some h.within)

straight_long : {x : Float} {k : ℕ} → Answers (Straight x) (sixteenths k) → Long x k
straight_long (straight p) = means_long p

corner_long : {x y : Float} {n : ℕ} → Answers (Corner x y) (sixteenths n) → BothLong x y n
corner_long (corner {x} {y} {k} {l} p q b) = record { k = k; l = l; first = means_long p; second = means_long q; sum = refl; within = b }

answers_length : (r : Run) (k : ℕ) → drawn_of r ≡ Ok k → Answers r (sixteenths k)
answers_length r k e = subst (λ (s : Says). Answers r s) (ap says_of e) (drawn_answers r)

-- a straight run that is taken
pub straight_length : (x : Float) (k : ℕ) → drawn_of (Straight x) ≡ Ok k → Long x k
straight_length x k e = straight_long (answers_length (Straight x) k e)

pub length_straight : (x : Float) (k : ℕ) → Long x k → drawn_of (Straight x) ≡ Ok k
length_straight x k h = same_says (drawn_of (Straight x)) (Ok k) (drawn_only (straight (long_means h)))

-- a corner that is taken
pub corner_length : (x y : Float) (n : ℕ) → drawn_of (Corner x y) ≡ Ok n → BothLong x y n
corner_length x y n e = corner_long (answers_length (Corner x y) n e)

pub length_corner : (x y : Float) (n : ℕ) → BothLong x y n → drawn_of (Corner x y) ≡ Ok n
length_corner x y n h =
    let b : h.k + h.l ≤ most = subst (λ (i : ℕ). i ≤ most) h.sum h.within in
    same_says (drawn_of (Corner x y)) (Ok n) (drawn_only (corner (long_means h.first) (long_means h.second) b) ∙ ap sixteenths (sym h.sum))

-- a leg that is taken has at most 1,048,575 sixteenths
says_length : (p : ℕ) (l : Leg) (k : ℕ) → at_place p l ≡ Ok k → leg_says p l ≡ sixteenths k
says_length p (Ok j) k h = cc
says_length p (Err n) k h = cc

pub leg_most : (p : ℕ) (x : Float) (k : ℕ) → at_place p (the_leg_of x) ≡ Ok k → k ≤ most
leg_most p x k h = (means_long (subst (λ (s : Says). Means p x s) (says_length p (the_leg_of x) k h) (leg_means p x))).within

-- ---- how near a length is to 16 times the exact one

means_rounds : {p : ℕ} {s : Bool} {m : ℕ} {e : ℤ} {k : ℕ} → Means p (fin s m e) (sixteenths k) → RoundsTo m e k
means_rounds (good h q b) = h

straight_rounds : {s : Bool} {m : ℕ} {e : ℤ} {k : ℕ} → Answers (Straight (fin s m e)) (sixteenths k) → RoundsTo m e k
straight_rounds (straight a) = means_rounds a

-- "at least 16 times the exact length and less than 1 above it"
pub straight_within : (s : Bool) (m : ℕ) (e : ℤ) (k : ℕ) → drawn_of (Straight (fin s m e)) ≡ Ok k → RoundsTo m e k
straight_within s m e k h = straight_rounds (answers_length (Straight (fin s m e)) k h)

over_both : (k l d g : ℕ) → (k + l) * (d * g) ≡ k * d * g + l * g * d
over_both k l d g =
    add-mul k l (d * g) ∙ ap₂ (λ (x : ℕ) (y : ℕ). x + y) (sym (mul_assoc k d g)) (ap (λ (y : ℕ). l * y) (mul_comm d g) ∙ sym (mul_assoc l g d))

-- k is at least a / d and less than 1 above it, and l so of b / g: their sum is at least a / d + b / g, and less than 2 above it
sum_reaches : (a b d g k l : ℕ) → a ≤ k * d → b ≤ l * g → a * g + b * d ≤ (k + l) * (d * g)
sum_reaches a b d g k l h i =
    omega (arith, mul-le-mul_right g h, mul-le-mul_right d i, over_both k l d g)

sum_under : (a b d g k l : ℕ) → 0 < d → 0 < g → k * d < a + d → l * g < b + g → (k + l) * (d * g) < a * g + b * d + 2 * (d * g)
sum_under a b d g k l D G h i =
    let first = mul-lt-mul_of_pos_right h G in
    let second = mul-lt-mul_of_pos_right i D in
    omega (arith, first, second, over_both k l d g, add-mul a d g, add-mul b g d, mul_comm g d)

corner_rounds : {s t : Bool} {m n : ℕ} {e f : ℤ} {k : ℕ} → Answers (Corner (fin s m e) (fin t n f)) (sixteenths k) → WithinTwo m e n f k
corner_rounds {m = m} {n} {e} {f} (corner {k = k} {l} a b h) =
    let i = means_rounds a in
    let j = means_rounds b in
    record {
      reaches = sum_reaches (16 * (m * up e)) (16 * (n * up f)) (down e) (down f) k l i.reaches j.reaches;
      under = sum_under (16 * (m * up e)) (16 * (n * up f)) (down e) (down f) k l (down_pos e) (down_pos f) i.least j.least;
    }

-- "for a corner less than 2 above it"
pub corner_within : (s t : Bool) (m n : ℕ) (e f : ℤ) (k : ℕ) → drawn_of (Corner (fin s m e) (fin t n f)) ≡ Ok k → WithinTwo m e n f k
corner_within s t m n e f k h = corner_rounds (answers_length (Corner (fin s m e) (fin t n f)) k h)

-- ---- what was a whole number of sixteenths stays

whole_rounds : (m : ℕ) (e : ℤ) (k : ℕ) → AreSixteenths m e k → RoundsTo m e k
whole_rounds m e k h = record { reaches = omega arith; least = omega (arith, down_pos e) }

pub whole_same : (m : ℕ) (e : ℤ) (k : ℕ) → AreSixteenths m e k → 1 ≤ k → k ≤ most → drawn_of (Straight (fin false m e)) ≡ Ok k
whole_same m e k h q b =
    length_straight (fin false m e) k (record { m = m; e = e; value = refl; rounded = whole_rounds m e k h; some = q; within = b })
