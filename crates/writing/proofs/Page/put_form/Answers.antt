-- `put_form` meets its contract: nothing in the first form, the number 0 in the second. Assumes nothing.
use mathlib.Core.Path.{ap}
use native.Mathlib.Omega.{arith}
use lib.ListN.{length}
use Rattle.writing.proofs.Puts.{wrote_none}
use Rattle.writing.proofs.Posts.{form_first, form_second}
use Rattle.writing.proofs.Page.put_form.Goals as goal

pub returns-in-First : goal.returns-in-First
returns-in-First c = rw (form_first _ c.in-First.is) (wrote_none _ (omega arith))

pub returns-in-Second : goal.returns-in-Second
returns-in-Second c = rw (form_second _ c.in-Second.is) c.put_number.ensures

pub put_number-requires : goal.put_number-requires
put_number-requires c = (omega arith, omega (arith, ap (λ w. length w) (form_second _ c.in-Second.is)))
