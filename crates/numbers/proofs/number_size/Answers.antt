-- `number_size` meets its contract: one law for each size. Assumes nothing.
use mathlib.Core.Path.{sym}
use native.Mathlib.Omega.{arith}
use Rattle.numbers.proofs.Loops.{size_one, size_two, size_three, size_four}
use Rattle.numbers.proofs.number_size.Goals as goal

pub returns-then-n-lt128 : goal.returns-then-n-lt128
returns-then-n-lt128 c = record { sized = (sym (size_one _ (omega arith)), omega arith) }

pub returns-then-n-lt16384 : goal.returns-then-n-lt16384
returns-then-n-lt16384 c = record { sized = (sym (size_two _ (omega arith) (omega arith)), omega arith) }

pub returns-then-n-lt2097152 : goal.returns-then-n-lt2097152
returns-then-n-lt2097152 c = record { sized = (sym (size_three _ (omega arith) (omega arith)), omega arith) }

pub returns : goal.returns
returns c = record { sized = (sym (size_four _ (omega arith)), omega arith) }
