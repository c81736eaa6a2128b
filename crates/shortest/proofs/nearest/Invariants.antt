-- `shortest::nearest` meets its contract: at the head of the loop the least note stands at rung p (`Descending`).
use Prim.Native.Nat.{◌-◌}
use Rattle.hanging.specs.Lists.{note}
use Rattle.shortest.proofs.Ladder.{Descending}
use Rattle.shortest.proofs.nearest.Given as goal

abbrev pub invariant-loop-p : goal.invariant-loop-p
invariant-loop-p l = Descending l.posts (note l.ladder) l.p

abbrev pub decreases-loop-p : goal.decreases-loop-p
decreases-loop-p l = l.posts - l.p
