-- `fill_number` meets its contract. The loop's invariant says which groups stand in the room; each turn is a law of Loops. Assumes nothing.
use Rattle.numbers.proofs.Loops.{Filling}
use Rattle.numbers.proofs.fill_number.Given as goal

abbrev pub invariant-loop-rest : goal.invariant-loop-rest
invariant-loop-rest l = Filling l.initial.room l.room l.n l.rest l.k

abbrev pub decreases-loop-rest : goal.decreases-loop-rest
decreases-loop-rest l = l.rest
