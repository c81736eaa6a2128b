-- `check_own` meets its contract: in the first form no line is read. Assumes nothing.
use Rattle.checks.proofs.Ways.{own_unread}
use Rattle.checks.proofs.check_own.Goals as goal

pub returns-in-First : goal.returns-in-First
returns-in-First c = record { checked = own_unread _ _ c.in-First.is }
