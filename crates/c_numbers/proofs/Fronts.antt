-- Numbers put at the front of a list, as far as it goes: the list that `put_front` leaves.
use mathlib.Core.Path.{◌≡◌, refl}
use mathlib.Core.List.{List, [], ◌∷◌, ◌++◌}
use Prim.Native.Nat.{ℕ, min}
use native.Mathlib.Decide.{dec_lt}
use native.Mathlib.Omega.{arith}
use lib.ListN.{length, take, drop, drop_of_length-le}
use lib.Seq.{take_all}
use Rattle.c_numbers.specs.Lists.{front}

-- no numbers change nothing
pub front_none : {X : Type 0} (l : List X) → front [] l ≡ l
unfolding front
front_none [] = refl
front_none (x ∷ l) = refl

-- as many of the numbers as there are places, and behind them what the list held there
pub front_cut : {X : Type 0} (v l : List X) (n : ℕ) → n ≡ min (length v) (length l) → take n v ++ drop n l ≡ front v l
unfolding front
front_cut v l n e =
    elim (dec_lt (length v) (length l)) [
      | yes k ↦ let i : n ≡ length v = omega arith in rw (i, take_all (length v) v (omega arith), take_all (length l) v (omega arith))
      | no k ↦ let i : n ≡ length l = omega arith in rw (i, drop_of_length-le l {i = length l} (omega arith), drop_of_length-le l {i = length v} (omega arith))
    ]
