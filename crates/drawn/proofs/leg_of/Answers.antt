-- `leg_of` meets its contract: a not-a-number is refused, and any other float is what its bits are read as, since the format holds it.
-- Assumes nothing.
use mathlib.Core.Path.{◌≡◌, refl, sym, ap, ◌∙◌, subst}
use mathlib.Core.Bool.{true}
use lib.Dec.{T}
use lib.Ieee.{Float, nan, inf, fin, binary64, is_nan}
use lib.Ieee.Bits.{of_bits-to_bits}
use Rattle.std.specs.Prelude.{Err}
use Rattle.drawn.specs.Drawn.{the_leg_of, at_place}
use Rattle.drawn.proofs.leg_of.Goals as goal

nan_leg : (x : Float) → is_nan x ≡ true → the_leg_of x ≡ Err 13
unfolding the_leg_of is_nan
nan_leg nan e = refl
nan_leg (inf s) e = cc
nan_leg (fin s m x) e = cc

pub returns-then-is_nan : goal.returns-then-is_nan
returns-then-is_nan c = c.refuse.ensures.refused ∙ ap (at_place c.args.place) (sym (nan_leg c.args.x (sym c.is_nan.ensures.value ∙ c.if-is_nan.true)))

pub returns : goal.returns
returns c =
    c.leg_of_bits.ensures
    ∙ ap (λ (x : Float). at_place c.args.place (the_leg_of x)) (of_bits-to_bits binary64 c.args.x (subst T (sym c.well_formed.0.1) tt))
