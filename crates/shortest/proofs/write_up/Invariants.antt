-- `shortest::write_up` meets its contract: at the head of the loop only the rung over p may be wrong (`Climbing`).
use Rattle.shortest.proofs.Ladder.{Climbing}
use Rattle.shortest.proofs.write_up.Given as goal

abbrev pub invariant-loop-p : goal.invariant-loop-p
invariant-loop-p l = Climbing l.posts l.initial.ladder l.ladder l.p

abbrev pub decreases-loop-p : goal.decreases-loop-p
decreases-loop-p l = l.p
