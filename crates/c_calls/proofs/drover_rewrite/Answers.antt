-- `drover_rewrite`: a refusal of `on_records::rewrite` has a number of the table, so that it can be marked. Assumes nothing.
use mathlib.Core.Path.{sym, ◌∙◌}
use Rattle.c_calls.proofs.Table.{markable, rewrite_listed}
use Rattle.c_calls.proofs.drover_rewrite.Goals as goal

pub length_number-requires : goal.length_number-requires
length_number-requires c = markable c.rewrite.result (λ r e. rewrite_listed _ (λ i. (c.type_inv.bytes i).fits) _ (sym c.rewrite.ensures.rewritten.answers ∙ e))
