-- `next` meets its contract: the number and the reader behind it, or 10 or 11. Assumes nothing.
use native.Mathlib.Omega.{arith}
use Rattle.reading.proofs.Carried.{misread_near}
use Rattle.reading.proofs.next.Goals as goal

pub overflow_cast-misread : goal.overflow_cast-misread
overflow_cast-misread c = omega (arith, c.requires, misread_near c.args.r.bytes.now c.args.r.at c.number-read.ensures.read c.in-Err.is)
