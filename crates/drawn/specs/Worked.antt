-- Document 01's worked examples of drawn runs, change request 04's and the borders of rounding, a row for each: what
-- the answer to a run says. Definitions only.
-- proofs/Worked computes them all as one theorem, and the crate `promises` joins them to the one table of all
-- statements marked (P); `drawn_examples` runs them, with more, on the compiled code.
use Rattle.std.specs.Prelude.{◌≡◌, true, false, ℕ, ◌^◌, Float}
use Rattle.std.specs.Float.{nan, inf, binary64}
use Rattle.std.specs.Float.Ieee.{round, of_bits}
use Rattle.drawn.specs.Drawn.{drawn_of}
use Rattle.drawn.specs.Says.{Says, sixteenths, refused, says_of}
use Rattle.drawn.specs.declared.Run.{Run}
use Rattle.drawn.specs.declared.Run.TheVariants.{Straight, Corner}

-- a / b millimetres as a literal of a program has it: the nearest f64
abbrev pub mm : ℕ → ℕ → Float
mm a b = round binary64 false a b

-- and with a minus
abbrev pub minus_mm : ℕ → ℕ → Float
minus_mm a b = round binary64 true a b

-- the f64 with this bit pattern
abbrev pub bits : ℕ → Float
bits n = of_bits binary64 n

-- what a drawn run's answer says
abbrev pub drawn_says : Run → Says
drawn_says run = says_of (drawn_of run)

pub record DrawnWorked : Type 0 where
  -- (P) "12.5 gives 200."
  pub drawn_12_5 : drawn_says (Straight (mm 125 10)) ≡ sixteenths 200
  -- (P) "65,535.9375 gives 1,048,575; 65,536 is refused with 17."
  pub drawn_longest : drawn_says (Straight (mm 655359375 10000)) ≡ sixteenths 1048575
  pub drawn_65536 : drawn_says (Straight (mm 65536 1)) ≡ refused 17 0
  -- "0.0625 gives 1"; change request 04: "0.1 gives 2; 0.03125 gives 1."
  pub drawn_0_0625 : drawn_says (Straight (mm 625 10000)) ≡ sixteenths 1
  pub drawn_0_03125 : drawn_says (Straight (mm 3125 100000)) ≡ sixteenths 1
  pub drawn_0_1 : drawn_says (Straight (mm 1 10)) ≡ sixteenths 2
  -- rounded up, and not to the nearest
  pub drawn_0_2 : drawn_says (Straight (mm 2 10)) ≡ sixteenths 4
  pub drawn_0_3 : drawn_says (Straight (mm 3 10)) ≡ sixteenths 5
  pub drawn_0_065 : drawn_says (Straight (mm 65 1000)) ≡ sixteenths 2
  pub drawn_100_1 : drawn_says (Straight (mm 1001 10)) ≡ sixteenths 1602
  -- the f64s next to 0.0625, above and below, and the one above 1
  pub above_0_0625 : drawn_says (Straight (bits 4589168020290535425)) ≡ sixteenths 2
  pub below_0_0625 : drawn_says (Straight (bits 4589168020290535423)) ≡ sixteenths 1
  pub above_1 : drawn_says (Straight (bits 4607182418800017409)) ≡ sixteenths 17
  -- the f64s next to 65,535.9375, above and below; "17 is tested on the rounded number, so 65,535.95 now gets 17"
  pub drawn_65535_9 : drawn_says (Straight (mm 655359 10)) ≡ sixteenths 1048575
  pub below_longest : drawn_says (Straight (bits 4679240004248010751)) ≡ sixteenths 1048575
  pub above_longest : drawn_says (Straight (bits 4679240004248010753)) ≡ refused 17 0
  pub drawn_65535_95 : drawn_says (Straight (mm 6553595 100)) ≡ refused 17 0
  -- the least f64 above zero, which is subnormal; one that is small; the largest
  pub least : drawn_says (Straight (bits 1)) ≡ sixteenths 1
  pub small : drawn_says (Straight (mm 1 (10 ^ 300))) ≡ sixteenths 1
  pub largest : drawn_says (Straight (bits 9218868437227405311)) ≡ refused 17 0
  -- "A not-a-number and both infinities: 13. −1: 14. Minus zero: 15." Below zero nothing is rounded
  pub drawn_nan : drawn_says (Straight nan) ≡ refused 13 0
  pub drawn_infinite : drawn_says (Straight (inf false)) ≡ refused 13 0
  pub drawn_minus_infinite : drawn_says (Straight (inf true)) ≡ refused 13 0
  pub drawn_minus_1 : drawn_says (Straight (minus_mm 1 1)) ≡ refused 14 0
  pub drawn_minus_0_1 : drawn_says (Straight (minus_mm 1 10)) ≡ refused 14 0
  pub minus_least : drawn_says (Straight (bits 9223372036854775809)) ≡ refused 14 0
  pub drawn_minus_0 : drawn_says (Straight (minus_mm 0 1)) ≡ refused 15 0
  pub drawn_0 : drawn_says (Straight (mm 0 1)) ≡ refused 15 0
  -- "A corner of 10 and 2.5 gives 200; one of 65,535.9375 and 0.0625 is refused with 17, place 2."
  pub drawn_corner : drawn_says (Corner (mm 10 1) (mm 25 10)) ≡ sixteenths 200
  pub drawn_corner_long : drawn_says (Corner (mm 655359375 10000) (mm 625 10000)) ≡ refused 17 2
  -- each leg is rounded by itself, and then they are added
  pub corner_0_1 : drawn_says (Corner (mm 1 10) (mm 1 10)) ≡ sixteenths 4
  pub corner_0_03125 : drawn_says (Corner (mm 3125 100000) (mm 3125 100000)) ≡ sixteenths 2
  pub corner_longest : drawn_says (Corner (mm 655358 10) (mm 1 10)) ≡ sixteenths 1048575
  pub corner_over : drawn_says (Corner (mm 655359375 10000) (mm 1 100)) ≡ refused 17 2
  pub corner_over_rounded : drawn_says (Corner (mm 655359 10) (mm 1 100)) ≡ refused 17 2
  pub corner_over_halves : drawn_says (Corner (mm 32768 1) (mm 3276795 100)) ≡ refused 17 2
  -- a refusal at the second leg's place, and the first leg's before it
  pub second_long : drawn_says (Corner (mm 1 1) (mm 65536 1)) ≡ refused 17 1
  pub second_rounded_long : drawn_says (Corner (mm 1 10) (mm 6553595 100)) ≡ refused 17 1
  pub second_nan : drawn_says (Corner (mm 1 10) nan) ≡ refused 13 1
  pub second_below : drawn_says (Corner (mm 1 10) (minus_mm 1 1)) ≡ refused 14 1
  pub second_zero : drawn_says (Corner (mm 1 10) (mm 0 1)) ≡ refused 15 1
  pub first_zero : drawn_says (Corner (mm 0 1) (mm 1 10)) ≡ refused 15 0
  pub first_long : drawn_says (Corner (mm 6553595 100) nan) ≡ refused 17 0
  pub first_before : drawn_says (Corner (minus_mm 1 1) nan) ≡ refused 14 0
