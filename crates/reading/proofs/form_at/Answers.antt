-- `form_at` meets its contract: by the first number, the form and where the head begins. Assumes nothing.
use mathlib.Core.Path.{refl}
use Rattle.net.proofs.Checks.{passed_on}
use Rattle.net.specs.declared.Form.{Form}
use Rattle.numbers.specs.Numbers.{number}
use Rattle.numbers.specs.declared.reader.Reader.{Reader}
use Rattle.reading.proofs.Carried.{stops, steps, hands_on}
use Rattle.reading.proofs.Steps.{formed_stops, formed_second, formed_first}
use Rattle.reading.proofs.form_at.Goals as goal

pub returns-in_err-n : goal.returns-in_err-n
returns-in_err-n c = let r = c.args.r in rw (formed_stops _ _ (stops number r r refl _ c.next.ensures.reads c.in_err-n.was)) (passed_on c.from_residual.ensures.1)

pub returns-then-n-eq0 : goal.returns-then-n-eq0
returns-then-n-eq0 c =
    let r = c.args.r in
    let a = steps r r refl number c.next.ensures.reads c.in_ok-n.was in
    hands_on (λ (f : Form) (t : Reader). (f, t)) r (formed_second _ _ (rw c.if-n-eq0.true at a.0)) a.1

pub returns : goal.returns
returns c =
    let r = c.args.r in
    let a = steps r r refl number c.next.ensures.reads c.in_ok-n.was in
    hands_on (λ (f : Form) (t : Reader). (f, t)) r (formed_first _ _ a.0 c.if-n-eq0.false) refl
