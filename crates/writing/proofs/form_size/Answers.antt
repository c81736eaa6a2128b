-- `form_size` meets its contract. Assumes nothing.
use mathlib.Core.Path.{sym, ap, ◌∙◌}
use lib.ListN.{length}
use Rattle.writing.proofs.Posts.{form_first, form_second}
use native.Mathlib.Omega.{arith}
use Rattle.writing.proofs.form_size.Goals as goal

pub returns-in-First : goal.returns-in-First
returns-in-First c = (sym (ap (λ w. length w) (form_first _ c.in-First.is)), omega arith)

pub returns-in-Second : goal.returns-in-Second
returns-in-Second c = (c.number_size.ensures.sized.0 ∙ sym (ap (λ w. length w) (form_second _ c.in-Second.is)), c.number_size.ensures.sized.1)
