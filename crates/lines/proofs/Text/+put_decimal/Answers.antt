-- `put_decimal` meets its contract: one digit, or what stands before the last digit and that digit.
use native.Mathlib.Omega.{arith}
use Rattle.lines.proofs.Digits.{decimal_some, put_low, put_high, high_length}
use Rattle.lines.proofs.Text.+put_decimal.Goals as goal

pub put_byte-requires : goal.put_byte-requires
put_byte-requires t c = omega (arith, decimal_some c.args.n)

pub returns-then-n-lt10 : goal.returns-then-n-lt10
returns-then-n-lt10 t c = put_low c.if-n-lt10.true c.digit.ensures c.put_byte.ensures

pub put_decimal-requires : goal.put_decimal-requires
put_decimal-requires t c = (omega (arith, c.decreases), omega (arith, high_length c.args.n c.if-n-lt10.false))

pub put_byte-requires-2 : goal.put_byte-requires-2
put_byte-requires-2 t c =
    omega (arith, c.put_decimal.ensures.put.behind, c.put_decimal.ensures.put.same, high_length c.args.n c.if-n-lt10.false)

pub returns : goal.returns
returns t c = put_high c.if-n-lt10.false c.put_decimal.ensures c.digit-2.ensures c.put_byte-2.ensures
