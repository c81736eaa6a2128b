-- `drover_drawn`: a refusal of `drawn` has a number of the table, so that it can be marked. Assumes nothing.
use mathlib.Core.Path.{sym, ◌∙◌}
use Rattle.c_calls.proofs.Table.{markable, drawn_listed}
use Rattle.c_calls.proofs.drover_drawn.Goals as goal

pub length_number-requires : goal.length_number-requires
length_number-requires c = markable c.drawn.result (λ r e. drawn_listed _ (sym c.drawn.ensures.drawn ∙ e))
