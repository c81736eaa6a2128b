-- `head_at` meets its contract: the reader is carried through five numbers, and what they come to, or the first refusal among them, is what `headed` says (`heading_carried`). Assumes nothing.
use mathlib.Core.Path.{refl}
use native.Mathlib.Omega.{arith}
use Rattle.net.proofs.Checks.{passed_on}
use Rattle.numbers.specs.Numbers.{number}
use Rattle.numbers.proofs.Groups.{number_next}
use Rattle.reading.specs.Carrying.{triple_of, heading_of}
use Rattle.reading.proofs.Carried.{steps, carried_stops, carried_steps}
use Rattle.reading.proofs.Carrying.{heading_carried}
use Rattle.reading.proofs.head_at.Goals as goal

pub returns-in_err-posts : goal.returns-in_err-posts
unfolding heading_of triple_of
returns-in_err-posts c =
    let r = c.args.r in
    let z = carried_stops r r refl c.next.ensures.carries c.in_err-posts.was in
    rw (← heading_carried r.bytes.now c.args.form r.at, z) (passed_on c.from_residual.ensures.1)

pub next-requires-2 : goal.next-requires-2
next-requires-2 c =
    let r = c.args.r in
    let a1 = steps r r refl number c.next.ensures.reads c.in_ok-posts.was in
    omega (arith, c.requires, number_next _ _ _ _ a1.0)

pub returns-in_err-source : goal.returns-in_err-source
unfolding heading_of triple_of
returns-in_err-source c =
    let r = c.args.r in
    let a1 = carried_steps r r refl c.next.ensures.carries c.in_ok-posts.was in
    let z = carried_stops r c.in_ok-posts.r a1.1 c.next-2.ensures.carries c.in_err-source.was in
    rw (← heading_carried r.bytes.now c.args.form r.at, a1.0, z) (passed_on c.from_residual-in_err-source.ensures.1)

pub next-requires-3 : goal.next-requires-3
next-requires-3 c =
    let r = c.args.r in
    let a1 = steps r r refl number c.next.ensures.reads c.in_ok-posts.was in
    let a2 = steps r c.in_ok-posts.r a1.1 number c.next-2.ensures.reads c.in_ok-source.was in
    omega (arith, c.requires, number_next _ _ _ _ a1.0, number_next _ _ _ _ a2.0)

pub returns-in_err-p : goal.returns-in_err-p
unfolding heading_of triple_of
returns-in_err-p c =
    let r = c.args.r in
    let a1 = carried_steps r r refl c.next.ensures.carries c.in_ok-posts.was in
    let a2 = carried_steps r c.in_ok-posts.r a1.1 c.next-2.ensures.carries c.in_ok-source.was in
    let z = carried_stops r c.in_ok-source.r a2.1 c.next-3.ensures.carries c.in_err-p.was in
    rw (← heading_carried r.bytes.now c.args.form r.at, a1.0, a2.0, z) (passed_on c.from_residual-in_err-p.ensures.1)

pub next-requires-4 : goal.next-requires-4
next-requires-4 c =
    let r = c.args.r in
    let a1 = steps r r refl number c.next.ensures.reads c.in_ok-posts.was in
    let a2 = steps r c.in_ok-posts.r a1.1 number c.next-2.ensures.reads c.in_ok-source.was in
    let a3 = steps r c.in_ok-source.r a2.1 number c.next-3.ensures.reads c.in_ok-p.was in
    omega (arith, c.requires, number_next _ _ _ _ a1.0, number_next _ _ _ _ a2.0, number_next _ _ _ _ a3.0)

pub returns-in_err-q : goal.returns-in_err-q
unfolding heading_of triple_of
returns-in_err-q c =
    let r = c.args.r in
    let a1 = carried_steps r r refl c.next.ensures.carries c.in_ok-posts.was in
    let a2 = carried_steps r c.in_ok-posts.r a1.1 c.next-2.ensures.carries c.in_ok-source.was in
    let a3 = carried_steps r c.in_ok-source.r a2.1 c.next-3.ensures.carries c.in_ok-p.was in
    let z = carried_stops r c.in_ok-p.r a3.1 c.next-4.ensures.carries c.in_err-q.was in
    rw (← heading_carried r.bytes.now c.args.form r.at, a1.0, a2.0, a3.0, z) (passed_on c.from_residual-in_err-q.ensures.1)

pub next-requires-5 : goal.next-requires-5
next-requires-5 c =
    let r = c.args.r in
    let a1 = steps r r refl number c.next.ensures.reads c.in_ok-posts.was in
    let a2 = steps r c.in_ok-posts.r a1.1 number c.next-2.ensures.reads c.in_ok-source.was in
    let a3 = steps r c.in_ok-source.r a2.1 number c.next-3.ensures.reads c.in_ok-p.was in
    let a4 = steps r c.in_ok-p.r a3.1 number c.next-4.ensures.reads c.in_ok-q.was in
    omega (arith, c.requires, number_next _ _ _ _ a1.0, number_next _ _ _ _ a2.0, number_next _ _ _ _ a3.0, number_next _ _ _ _ a4.0)

pub returns-in_err-count : goal.returns-in_err-count
unfolding heading_of triple_of
returns-in_err-count c =
    let r = c.args.r in
    let a1 = carried_steps r r refl c.next.ensures.carries c.in_ok-posts.was in
    let a2 = carried_steps r c.in_ok-posts.r a1.1 c.next-2.ensures.carries c.in_ok-source.was in
    let a3 = carried_steps r c.in_ok-source.r a2.1 c.next-3.ensures.carries c.in_ok-p.was in
    let a4 = carried_steps r c.in_ok-p.r a3.1 c.next-4.ensures.carries c.in_ok-q.was in
    let z = carried_stops r c.in_ok-q.r a4.1 c.next-5.ensures.carries c.in_err-count.was in
    rw (← heading_carried r.bytes.now c.args.form r.at, a1.0, a2.0, a3.0, a4.0, z) (passed_on c.from_residual-in_err-count.ensures.1)

pub returns : goal.returns
unfolding heading_of triple_of
returns c =
    let r = c.args.r in
    let a1 = carried_steps r r refl c.next.ensures.carries c.in_ok-posts.was in
    let a2 = carried_steps r c.in_ok-posts.r a1.1 c.next-2.ensures.carries c.in_ok-source.was in
    let a3 = carried_steps r c.in_ok-source.r a2.1 c.next-3.ensures.carries c.in_ok-p.was in
    let a4 = carried_steps r c.in_ok-p.r a3.1 c.next-4.ensures.carries c.in_ok-q.was in
    let a5 = carried_steps r c.in_ok-q.r a4.1 c.next-5.ensures.carries c.in_ok-count.was in
    rw (← heading_carried r.bytes.now c.args.form r.at, a1.0, a2.0, a3.0, a4.0, a5.0, ← a5.1)
