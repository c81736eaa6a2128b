-- `leg_of_bits` meets its contract: each of the eight ways through the code is a law of `proofs/Bits.antt`. Assumes nothing.
use mathlib.Core.Path.{sym, ap, ◌∙◌}
use native.Mathlib.Omega.{arith}
use Rattle.drawn.specs.Drawn.{at_place}
use Rattle.drawn.proofs.Bits.{digits_lt, field_lt, zeros_few, bits_not_finite, bits_below_zero, bits_zero, bits_too_long, bits_under_one, bits_whole, bits_past, bits_more, whole_most}
use Rattle.drawn.proofs.leg_of_bits.Goals as goal

pub returns-then-field-eq-TOP_FIELD : goal.returns-then-field-eq-TOP_FIELD
returns-then-field-eq-TOP_FIELD c = c.refuse.ensures.refused ∙ ap (at_place c.args.place) (sym (bits_not_finite c.args.bits c.if-field-eq-TOP_FIELD.true))

pub returns-then-bits-gt-SIGN : goal.returns-then-bits-gt-SIGN
returns-then-bits-gt-SIGN c = c.refuse-then-bits-gt-SIGN.ensures.refused ∙ ap (at_place c.args.place) (sym (bits_below_zero c.args.bits c.ranges.bits.fits c.if-field-eq-TOP_FIELD.false c.if-bits-gt-SIGN.true))

pub returns-then-size-eq0 : goal.returns-then-size-eq0
returns-then-size-eq0 c = c.refuse-then-size-eq0.ensures.refused ∙ ap (at_place c.args.place) (sym (bits_zero c.args.bits c.if-size-eq0.true))

pub overflow_add-significand : goal.overflow_add-significand
overflow_add-significand c = omega (arith, digits_lt c.args.bits)

pub returns-then-field-ge-LONG_FIELD : goal.returns-then-field-ge-LONG_FIELD
returns-then-field-ge-LONG_FIELD c =
    c.refuse-then-field-ge-LONG_FIELD.ensures.refused ∙ ap (at_place c.args.place) (sym (bits_too_long c.args.bits c.if-field-eq-TOP_FIELD.false c.if-bits-gt-SIGN.false c.if-size-eq0.false c.if-field-ge-LONG_FIELD.true))

pub returns-then-field-lt-ONE_FIELD : goal.returns-then-field-lt-ONE_FIELD
returns-then-field-lt-ONE_FIELD c =
    ap (at_place c.args.place) (sym (bits_under_one c.args.bits c.if-field-eq-TOP_FIELD.false c.if-bits-gt-SIGN.false c.if-size-eq0.false c.if-field-lt-ONE_FIELD.true))

pub overflow_add-field : goal.overflow_add-field
overflow_add-field c = let b = c.args.bits in omega (arith, zeros_few b, field_lt b)

pub overflow_cast-whole : goal.overflow_cast-whole
overflow_cast-whole c = omega (arith, whole_most c.args.bits c.if-field-ge-LONG_FIELD.false)

pub returns-then-field-zeros-ge-SIXTEENTHS_FIELD : goal.returns-then-field-zeros-ge-SIXTEENTHS_FIELD
returns-then-field-zeros-ge-SIXTEENTHS_FIELD c =
    ap (at_place c.args.place) (sym
    (bits_whole c.args.bits c.if-field-eq-TOP_FIELD.false c.if-bits-gt-SIGN.false c.if-size-eq0.false c.if-field-lt-ONE_FIELD.false
    c.if-field-ge-LONG_FIELD.false (omega arith)))

pub returns-then-whole-ge-LONGEST : goal.returns-then-whole-ge-LONGEST
returns-then-whole-ge-LONGEST c =
    c.refuse-then-whole-ge-LONGEST.ensures.refused ∙ ap (at_place c.args.place) (sym
    (bits_past c.args.bits c.if-field-eq-TOP_FIELD.false c.if-bits-gt-SIGN.false c.if-size-eq0.false c.if-field-lt-ONE_FIELD.false
    c.if-field-ge-LONG_FIELD.false (omega arith) c.if-whole-ge-LONGEST.true))

pub returns : goal.returns
returns c =
    ap (at_place c.args.place) (sym
    (bits_more c.args.bits c.if-field-eq-TOP_FIELD.false c.if-bits-gt-SIGN.false c.if-size-eq0.false c.if-field-lt-ONE_FIELD.false
    c.if-field-ge-LONG_FIELD.false (omega arith) c.if-whole-ge-LONGEST.false))
