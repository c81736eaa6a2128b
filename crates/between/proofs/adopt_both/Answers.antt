-- `adopt_both` meets its contract: two adoptions where the ends differ, one where they are the same post. Assumes nothing.
use Rattle.between.proofs.Links.{both_two, both_one}
use Rattle.between.proofs.adopt_both.Goals as goal

pub returns-then-x-y : goal.returns-then-x-y
returns-then-x-y c = both_two _ _ _ _ _ _ _ c.adopt.ensures c.if-x-y.true c.adopt-then-x-y.ensures

pub returns-else-x-y : goal.returns-else-x-y
returns-else-x-y c = both_one _ _ _ _ _ _ c.adopt.ensures c.if-x-y.false
