-- `ratio_at` meets its contract: the reader is carried through two numbers, and what they and their 3 come to, or the first refusal, is what `ratio` says (`ratio_carried`). Assumes nothing.
use mathlib.Core.Path.{refl}
use native.Mathlib.Omega.{arith}
use Rattle.net.proofs.Checks.{passed_on}
use Rattle.numbers.specs.Numbers.{number}
use Rattle.numbers.proofs.Groups.{number_next}
use Rattle.writing.proofs.Lines.{refused_lines, sound_lines}
use Rattle.reading.specs.Carrying.{pair_of, ratio_of}
use Rattle.reading.proofs.Carried.{steps, carried_stops, carried_steps}
use Rattle.reading.proofs.Carrying.{ratio_carried}
use Rattle.reading.proofs.ratio_at.Goals as goal

pub returns-in_err-p : goal.returns-in_err-p
unfolding ratio_of pair_of
returns-in_err-p c =
    let r = c.args.r in
    let z = carried_stops r r refl c.next.ensures.carries c.in_err-p.was in
    rw (← ratio_carried r.bytes.now c.args.post r.at, z) (passed_on c.from_residual.ensures.1)

pub next-requires-2 : goal.next-requires-2
next-requires-2 c =
    let r = c.args.r in
    let a1 = steps r r refl number c.next.ensures.reads c.in_ok-p.was in
    omega (arith, c.requires, number_next _ _ _ _ a1.0)

pub returns-in_err-q : goal.returns-in_err-q
unfolding ratio_of pair_of
returns-in_err-q c =
    let r = c.args.r in
    let a1 = carried_steps r r refl c.next.ensures.carries c.in_ok-p.was in
    let z = carried_stops r c.in_ok-p.r a1.1 c.next-2.ensures.carries c.in_err-q.was in
    rw (← ratio_carried r.bytes.now c.args.post r.at, a1.0, z) (passed_on c.from_residual-in_err-q.ensures.1)

pub returns-in_err-check_ratio : goal.returns-in_err-check_ratio
unfolding ratio_of pair_of
returns-in_err-check_ratio c =
    let r = c.args.r in
    let a1 = carried_steps r r refl c.next.ensures.carries c.in_ok-p.was in
    let a2 = carried_steps r c.in_ok-p.r a1.1 c.next-2.ensures.carries c.in_ok-q.was in
    rw (← ratio_carried r.bytes.now c.args.post r.at, a1.0, a2.0, refused_lines _ _ _ c.check_ratio.ensures.checked c.in_err-check_ratio.was) (passed_on c.from_residual-in_err-check_ratio.ensures.1)

pub returns : goal.returns
unfolding ratio_of pair_of
returns c =
    let r = c.args.r in
    let a1 = carried_steps r r refl c.next.ensures.carries c.in_ok-p.was in
    let a2 = carried_steps r c.in_ok-p.r a1.1 c.next-2.ensures.carries c.in_ok-q.was in
    rw (← ratio_carried r.bytes.now c.args.post r.at, a1.0, a2.0, sound_lines _ _ c.check_ratio.ensures.checked c.in_ok-check_ratio.was, ← a2.1)
