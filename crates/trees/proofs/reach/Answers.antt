-- `reach` meets its contract: by the test, and while a post isn't reached the queue has a place (`reaching_room`). Assumes nothing.
use Rattle.std.proofs.Common.{arith}
use Rattle.trees.specs.Along.{Stepped}
use Rattle.trees.proofs.Along.{reaching_room}
use Rattle.trees.proofs.reach.Goals as goal

pub offset_bounds-walk-walk : goal.offset_bounds-walk-walk
offset_bounds-walk-walk c = let r = c.requires.reaching in
    omega (arith, reaching_room r c.requires.w_bound.0 c.if-not-walk-w.true, r.few)

pub bounds-walk-walk : goal.bounds-walk-walk
bounds-walk-walk c = let r = c.requires.reaching in
    omega (arith, reaching_room r c.requires.w_bound.0 c.if-not-walk-w.true, r.places)

pub overflow_add-walk : goal.overflow_add-walk
overflow_add-walk c = let r = c.requires.reaching in
    omega (arith, reaching_room r c.requires.w_bound.0 c.if-not-walk-w.true, r.few)

pub returns-then-not-walk-w : goal.returns-then-not-walk-w
returns-then-not-walk-w c = Stepped.newly c.if-not-walk-w.true

pub returns-else-not-walk-w : goal.returns-else-not-walk-w
returns-else-not-walk-w c = Stepped.already c.if-not-walk-w.false
