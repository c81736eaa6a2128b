-- `drover_to_second`: a refusal of `moves::to_second` has a number of the table, so that it can be marked. Assumes nothing.
use mathlib.Core.Path.{sym, ◌∙◌}
use Rattle.net.specs.declared.Form.TheVariants.{Second}
use Rattle.c_calls.proofs.Table.{markable, move_listed}
use Rattle.c_calls.proofs.drover_to_second.Goals as goal

pub length_number-requires : goal.length_number-requires
length_number-requires c = markable c.to_second.result (λ r e. move_listed _ (λ i. (c.type_inv.bytes i).fits) Second _ (sym c.to_second.ensures.moved.answers ∙ e))
