-- `shortest::nearest` meets its contract: at the head of the loop the least note stands at rung p (`Descending`).
use Rattle.shortest.proofs.Ladder.{nearest_none, descended}
use Rattle.shortest.proofs.nearest.Goals as goal

pub returns-then-least-ge-NONE_YET : goal.returns-then-least-ge-NONE_YET
returns-then-least-ge-NONE_YET c = nearest_none c.if-least-ge-NONE_YET.true

pub returns : goal.returns
returns c = descended c.loop-p.invariant c.loop-p-test.false c.if-least-ge-NONE_YET.false
