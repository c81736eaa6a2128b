-- `numbers_size` meets its contract: the length of five runs of bytes is the sum of their lengths. Assumes nothing.
use native.Mathlib.Omega.{arith}
use Rattle.writing.proofs.Puts.{numbers_length}
use Rattle.writing.proofs.numbers_size.Goals as goal

pub returns : goal.returns
returns c =
    let start = c in
    let number-size' = c.number_size in
    let number-size2' = c.number_size-2 in
    let number-size3' = c.number_size-3 in
    let number-size4' = c.number_size-4 in
    let number-size5' = c.number_size-5 in
    (omega (arith, numbers_length start.args.head start.args.count, number-size5'.ensures.sized.0, number-size4'.ensures.sized.0, number-size3'.ensures.sized.0, number-size2'.ensures.sized.0, number-size'.ensures.sized.0), omega arith)
