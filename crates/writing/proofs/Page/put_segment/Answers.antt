-- `put_segment` meets its contract: three numbers, each put behind the one before. Assumes nothing.
use mathlib.Core.Path.{ap}
use native.Mathlib.Omega.{arith}
use lib.ListN.{length}
use Rattle.numbers.specs.Numbers.{written}
use Rattle.writing.proofs.Puts.{segment_length, segment_put}
use Rattle.writing.proofs.Page.put_segment.Goals as goal

pub put_number-requires : goal.put_number-requires
put_number-requires c = (omega arith, omega (arith, c.requires.1, segment_length c.args.s, ap (λ x. length (written x)) c.from.ensures))

pub put_number-requires-2 : goal.put_number-requires-2
put_number-requires-2 c =
    (omega arith, omega (arith, c.requires.1, segment_length c.args.s, ap (λ x. length (written x)) c.from.ensures, ap (λ x. length (written x)) c.from-2.ensures))

pub put_number-requires-3 : goal.put_number-requires-3
put_number-requires-3 c =
    (c.requires.0, omega (arith, c.requires.1, segment_length c.args.s, ap (λ x. length (written x)) c.from.ensures, ap (λ x. length (written x)) c.from-2.ensures))

pub returns : goal.returns
returns c = segment_put c.args.s c.from.ensures c.from-2.ensures c.put_number.ensures c.put_number-2.ensures c.put_number-3.ensures
