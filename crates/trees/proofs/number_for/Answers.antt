-- `number_for` meets its contract: by the form, and at the source. Assumes nothing.
use Rattle.trees.proofs.Ratios.{number_first, number_source, number_own}
use Rattle.trees.proofs.number_for.Goals as goal

pub returns-in-First : goal.returns-in-First
returns-in-First c = record { ruling = number_first _ _ _ _ c.in-First.is }

pub returns-then-v-head : goal.returns-then-v-head
returns-then-v-head c = record { ruling = number_source _ _ _ _ c.in-Second.is c.if-v-head.true }

pub returns-else-v-head : goal.returns-else-v-head
returns-else-v-head c = record { ruling = number_own _ _ _ _ c.in-Second.is c.if-v-head.false }
