-- `adopt` meets its contract: `adopt_hit` where c hangs by the segment, `adopt_miss` where it does not. Assumes nothing.
use Rattle.between.proofs.Links.{adopt_hit, adopt_miss}
use Rattle.between.proofs.adopt.Goals as goal

pub returns-then-from-i : goal.returns-then-from-i
returns-then-from-i c = adopt_hit _ _ _ _ _ _ _ _ _ _ _ _ _ _ _ c.from.ensures c.at.ensures.read c.from-2.ensures
    c.if-from-i.true c.from-then-from-i.ensures c.at-next.ensures.read c.from-then-from-i-2.ensures c.put.ensures.put
    c.from-then-from-i-3.ensures c.put-then-from-i.ensures.put

pub returns-else-from-i : goal.returns-else-from-i
returns-else-from-i c = adopt_miss _ _ _ _ _ _ _ _ _ c.from.ensures c.at.ensures.read c.from-2.ensures c.if-from-i.false
