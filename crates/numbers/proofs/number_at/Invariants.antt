-- `number_at` meets its contract. The loop's invariant says how far the number is read; each way out is a law of Loops. Assumes nothing.
use Rattle.numbers.proofs.Loops.{SoFar}
use Rattle.numbers.proofs.number_at.Given as goal

abbrev pub invariant-loop-k : goal.invariant-loop-k
invariant-loop-k l = SoFar l.bytes l.at l.low l.unit l.k
