-- `margin_by` meets its contract: two products and their difference. Assumes nothing.
use mathlib.Core.Path.{◌∙◌}
use Rattle.margins.proofs.Margins.{back, margin_at}
use Rattle.margins.proofs.margin_by.Goals as goal

pub returns : goal.returns
returns c =
    back c.minus.result c.minus.type_inv ∙ margin_at _ _ _ _ c.minus.ensures c.product-limit.ensures.0 c.product-taken.ensures.0
    c.from.ensures c.from-2.ensures c.from-3.ensures c.from-4.ensures
