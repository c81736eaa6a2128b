-- `other_ratio` meets its contract. Assumes nothing.
use borrow.Author.Tests.{eq-eqb, ne_eqb}
use Rattle.moves.proofs.other_ratio.Goals as goal

pub returns-then-p-head : goal.returns-then-p-head
returns-then-p-head c = rw (ne_eqb _ _ c.if-p-head.true)

pub returns-else-p-head : goal.returns-else-p-head
returns-else-p-head c = rw (eq-eqb _ _ c.if-p-head.false)
