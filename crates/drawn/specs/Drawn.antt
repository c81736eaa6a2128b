-- What a drawn run comes to, by the values of its floats. Definitions only: the contracts of `drawn` cite `drawn_of`.
-- A finite float is ±m * 2 ^ e, and 2 ^ e is the fraction up e / down e (`lib.Ieee`). So in sixteenths of a millimetre
-- it is ±16 * m * up e / down e, a fraction of whole numbers: no bits. Each leg is rounded up once, by `up_to`.
-- `specs/Rules.antt` says the same as rules, and `specs/Says.antt` reads an answer as document 01's number and place.
use Rattle.std.specs.Prelude.{ℕ, ◌+◌, ◌*◌, ◌/◌, ◌%◌, Bool, ◌&&◌, cond, leb, ltb, eqb, Float, Result, Ok, Err}
use Rattle.std.specs.Float.{nan, inf, fin}
use Rattle.std.specs.Float.Ieee.{up, down}
use Rattle.net.specs.Net.{longest}
use Rattle.net.specs.declared.Refusal.{Refusal}
use Rattle.drawn.specs.declared.Run.{Run}
use Rattle.drawn.specs.declared.Run.TheVariants.{Straight, Corner}

-- one leg: so many sixteenths, or the number of its refusal
abbrev pub Leg : Type 0
Leg = Result ℕ ℕ

-- a length in sixteenths, or a refusal
abbrev pub Answer : Type 0
Answer = Result ℕ Refusal

-- 65,535.9375 mm in sixteenths: the longest segment's length
abbrev pub most : ℕ
most = longest

-- n / d rounded up to a whole number, for a d above 0: one more than the quotient where something is left over
abbrev pub up_to : ℕ → ℕ → ℕ
up_to n d = n / d + cond (ltb 0 (n % d)) 1 0

-- ±n / d sixteenths, for a d above 0; s is true where the sign is minus.
-- 14 below zero; 15 zero, of either sign; any other is rounded up, and 17 where that is above 1,048,575
abbrev pub measured : Bool → ℕ → ℕ → Leg
measured s n d =
    cond (s && ltb 0 n) (Err 14)
    (cond (eqb n 0) (Err 15)
    (cond (ltb most (up_to n d)) (Err 17) (Ok (up_to n d))))

-- one leg: 13 not finite; any other by 16 times its value
unfoldable pub the_leg_of : Float → Leg
the_leg_of nan = Err 13
the_leg_of (inf s) = Err 13
the_leg_of (fin s m e) = measured s (16 * (m * up e)) (down e)

-- a refusal with the number n and the place p
abbrev pub refusal : ℕ → ℕ → Answer
refusal n p = Err (record { number = n; place = p })

-- a leg whose place is p
abbrev pub at_place : ℕ → Leg → Answer
at_place p (Ok k) = Ok k
at_place p (Err n) = refusal n p

-- a straight run: its one leg, at place 0
abbrev pub straight_of : Leg → Answer
straight_of l = at_place 0 l

-- a corner: the first leg at place 0, then the second at place 1, then the legs together at place 2
abbrev pub corner_of : Leg → Leg → Answer
corner_of (Ok k) (Ok l) = cond (leb (k + l) most) (Ok (k + l)) (refusal 17 2)
corner_of (Ok k) (Err n) = refusal n 1
corner_of (Err n) b = refusal n 0

-- what `drawn` answers
unfoldable pub drawn_of : Run → Answer
unfolding the_leg_of
drawn_of (Straight x) = straight_of (the_leg_of x)
drawn_of (Corner x y) = corner_of (the_leg_of x) (the_leg_of y)
