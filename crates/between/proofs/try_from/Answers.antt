-- `try_from` meets its contract: `try_hit` where the test passes, `try_miss` where it fails. Assumes nothing.
use Rattle.between.proofs.Trying.{try_hit, try_miss}
use Rattle.between.proofs.try_from.Goals as goal

pub returns-then-is_less : goal.returns-then-is_less
returns-then-is_less c = λ g el. try_hit g _ _ _ _ _ _ _ _ _ c.at-from.ensures.read c.at-to.ensures.read c.is_less.ensures
    el _ _ c.if-is_less.true c.put.ensures.put c.put-then-is_less.ensures.put

pub returns-else-is_less : goal.returns-else-is_less
returns-else-is_less c = λ g el. try_miss g _ _ _ _ _ _ _ _ _ c.at-from.ensures.read c.at-to.ensures.read
    c.is_less.ensures el c.if-is_less.false
