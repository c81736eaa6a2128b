-- Document 01's worked examples of drawn runs hold: every row is computed from the definitions. Assumes nothing.
use mathlib.Core.Path.{refl}
use lib.Ieee.{round, of_bits}
use Rattle.drawn.specs.Drawn.{drawn_of}
use Rattle.drawn.specs.Worked.{DrawnWorked}

pub drawn_worked : DrawnWorked
unfolding drawn_of round of_bits
drawn_worked =
    record {
      drawn_12_5 = refl;
      drawn_longest = refl;
      drawn_65536 = refl;
      drawn_0_0625 = refl;
      drawn_0_03125 = refl;
      drawn_0_1 = refl;
      drawn_0_2 = refl;
      drawn_0_3 = refl;
      drawn_0_065 = refl;
      drawn_100_1 = refl;
      above_0_0625 = refl;
      below_0_0625 = refl;
      above_1 = refl;
      drawn_65535_9 = refl;
      below_longest = refl;
      above_longest = refl;
      drawn_65535_95 = refl;
      least = refl;
      small = refl;
      largest = refl;
      drawn_nan = refl;
      drawn_infinite = refl;
      drawn_minus_infinite = refl;
      drawn_minus_1 = refl;
      drawn_minus_0_1 = refl;
      minus_least = refl;
      drawn_minus_0 = refl;
      drawn_0 = refl;
      drawn_corner = refl;
      drawn_corner_long = refl;
      corner_0_1 = refl;
      corner_0_03125 = refl;
      corner_longest = refl;
      corner_over = refl;
      corner_over_rounded = refl;
      corner_over_halves = refl;
      second_long = refl;
      second_rounded_long = refl;
      second_nan = refl;
      second_below = refl;
      second_zero = refl;
      first_zero = refl;
      first_long = refl;
      first_before = refl;
    }
