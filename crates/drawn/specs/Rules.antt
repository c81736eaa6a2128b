-- Document 01's rules for a drawn run, each leg rounded up to a whole sixteenth as change request 04 has it: one
-- constructor a rule, over the values of the run's floats. Definitions only.
-- `proofs/Rules.antt` proves that every run has an answer by these rules (`drawn_answers`), and that it has no other
-- (`drawn_only`): they say what `drawn_of`, which the contract cites, computes.
use Rattle.std.specs.Prelude.{◌≡◌, Bool, true, false, ℕ, ◌+◌, ◌*◌, ◌≤◌, ◌<◌, ℤ, Float}
use Rattle.std.specs.Float.{nan, inf, fin}
use Rattle.std.specs.Float.Ieee.{up, down}
use Rattle.drawn.specs.Drawn.{most}
use Rattle.drawn.specs.Says.{Says, sixteenths, refused}
use Rattle.drawn.specs.declared.Run.{Run}
use Rattle.drawn.specs.declared.Run.TheVariants.{Straight, Corner}

-- m * 2 ^ e millimetres are k sixteenths: 16 * m * 2 ^ e = k, with 2 ^ e the fraction up e / down e
abbrev pub AreSixteenths : ℕ → ℤ → ℕ → Type 0
AreSixteenths m e k = 16 * (m * up e) ≡ k * down e

-- m * 2 ^ e millimetres rounded up to a whole sixteenth are k: k is at least 16 times that and less than 1 above it,
-- k - 1 < 16 * m * 2 ^ e ≤ k
pub record RoundsTo (m : ℕ) (e : ℤ) (k : ℕ) : Type 0 where
  pub reaches : 16 * (m * up e) ≤ k * down e
  pub least : k * down e < 16 * (m * up e) + down e

-- 16 times the sum of m * 2 ^ e and n * 2 ^ f, as a fraction over down e * down f
abbrev pub both_over : ℕ → ℤ → ℕ → ℤ → ℕ
both_over m e n f = 16 * (m * up e) * down f + 16 * (n * up f) * down e

-- k is at least 16 times the sum of m * 2 ^ e and n * 2 ^ f millimetres, and less than 2 above it
pub record WithinTwo (m : ℕ) (e : ℤ) (n : ℕ) (f : ℤ) (k : ℕ) : Type 0 where
  pub reaches : both_over m e n f ≤ k * (down e * down f)
  pub under : k * (down e * down f) < both_over m e n f + 2 * (down e * down f)

-- What a drawn length says, as the leg whose place is p.
pub data Means (p : ℕ) : Float → Says → Type 0 where
  -- 13: "drawn length not finite". "A not-a-number and both infinities"
  not_a_number : Means p nan (refused 13 p)
  infinite : {s : Bool} → Means p (inf s) (refused 13 p)
  -- 14: "drawn length below zero"
  below_zero : {m : ℕ} {e : ℤ} → 0 < m → Means p (fin true m e) (refused 14 p)
  -- 15: "drawn length zero, of either sign"
  is_zero : {s : Bool} {m : ℕ} {e : ℤ} → m ≡ 0 → Means p (fin s m e) (refused 15 p)
  -- 17: "drawn length above 65,535.9375 mm", "tested on the rounded number"
  too_long : {m : ℕ} {e : ℤ} (k : ℕ) → RoundsTo m e k → most < k → Means p (fin false m e) (refused 17 p)
  -- "Round each drawn value up to the next whole sixteenth"
  good : {m : ℕ} {e : ℤ} {k : ℕ} → RoundsTo m e k → 0 < k → k ≤ most → Means p (fin false m e) (sixteenths k)

-- What a run says: 13, 14, 15, 17 for the first leg, then the same four for the second, then the sum.
-- "16 is no longer given"
pub data Answers : Run → Says → Type 0 where
  -- "as straight, with one length": place 0
  straight : {x : Float} {s : Says} → Means 0 x s → Answers (Straight x) s
  -- "or as a corner, with two legs": place "0, second leg 1"
  first_refused : {x y : Float} {n p : ℕ} → Means 0 x (refused n p) → Answers (Corner x y) (refused n p)
  second_refused : {x y : Float} {k n p : ℕ} → Means 0 x (sixteenths k) → Means 1 y (refused n p)
      → Answers (Corner x y) (refused n p)
  -- 17: "above 65,535.9375 mm .., or the legs together (place 2)"
  together : {x y : Float} {k l : ℕ} → Means 0 x (sixteenths k) → Means 1 y (sixteenths l) → most < k + l
      → Answers (Corner x y) (refused 17 2)
  -- "or 16 times each leg, added as whole numbers"
  corner : {x y : Float} {k l : ℕ} → Means 0 x (sixteenths k) → Means 1 y (sixteenths l) → k + l ≤ most
      → Answers (Corner x y) (sixteenths (k + l))

-- the numbers that a run may be refused with: 13, 14, 15 and 17
abbrev pub RefusedWith : ℕ → Type 0
RefusedWith n = (13 ≤ n) × (n ≤ 17) × (n ≡ 16 → ⊥)

-- x is +m * 2 ^ e millimetres and these are rounded up to k sixteenths, 1 to 1,048,575
pub record Long (x : Float) (k : ℕ) : Type 0 where
  pub m : ℕ
  pub e : ℤ
  pub value : x ≡ fin false m e
  pub rounded : RoundsTo m e k
  pub some : 1 ≤ k
  pub within : k ≤ most

-- x and y are rounded up to so many sixteenths each, n together, at most 1,048,575
pub record BothLong (x y : Float) (n : ℕ) : Type 0 where
  pub k : ℕ
  pub l : ℕ
  pub first : Long x k
  pub second : Long y l
  pub sum : n ≡ k + l
  pub within : n ≤ most
