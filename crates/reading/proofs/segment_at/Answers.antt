-- `segment_at` meets its contract: the reader is carried through three numbers, and what they and 5, 6, 7 come to, or the first refusal, is what `segment` says (`segment_carried`). Assumes nothing.
use mathlib.Core.Path.{refl}
use native.Mathlib.Omega.{arith}
use Rattle.net.proofs.Checks.{passed_on}
use Rattle.numbers.specs.Numbers.{number}
use Rattle.numbers.proofs.Groups.{number_next}
use Rattle.writing.proofs.Lines.{segment_sound, refused_lines, sound_lines}
use Rattle.reading.specs.Answers.{the_segment_of}
use Rattle.reading.specs.Carrying.{triple_of}
use Rattle.reading.proofs.Carried.{steps, carried_stops, carried_steps}
use Rattle.reading.proofs.Carrying.{segment_carried}
use Rattle.reading.proofs.segment_at.Goals as goal

pub returns-in_err-a : goal.returns-in_err-a
unfolding the_segment_of triple_of
returns-in_err-a c =
    let r = c.args.r in
    let z = carried_stops r r refl c.next.ensures.carries c.in_err-a.was in
    rw (← segment_carried r.bytes.now c.args.posts c.args.i r.at, z) (passed_on c.from_residual.ensures.1)

pub next-requires-2 : goal.next-requires-2
next-requires-2 c =
    let r = c.args.r in
    let a1 = steps r r refl number c.next.ensures.reads c.in_ok-a.was in
    omega (arith, c.requires.0, number_next _ _ _ _ a1.0)

pub returns-in_err-b : goal.returns-in_err-b
unfolding the_segment_of triple_of
returns-in_err-b c =
    let r = c.args.r in
    let a1 = carried_steps r r refl c.next.ensures.carries c.in_ok-a.was in
    let z = carried_stops r c.in_ok-a.r a1.1 c.next-2.ensures.carries c.in_err-b.was in
    rw (← segment_carried r.bytes.now c.args.posts c.args.i r.at, a1.0, z) (passed_on c.from_residual-in_err-b.ensures.1)

pub next-requires-3 : goal.next-requires-3
next-requires-3 c =
    let r = c.args.r in
    let a1 = steps r r refl number c.next.ensures.reads c.in_ok-a.was in
    let a2 = steps r c.in_ok-a.r a1.1 number c.next-2.ensures.reads c.in_ok-b.was in
    omega (arith, c.requires.0, number_next _ _ _ _ a1.0, number_next _ _ _ _ a2.0)

pub returns-in_err-length : goal.returns-in_err-length
unfolding the_segment_of triple_of
returns-in_err-length c =
    let r = c.args.r in
    let a1 = carried_steps r r refl c.next.ensures.carries c.in_ok-a.was in
    let a2 = carried_steps r c.in_ok-a.r a1.1 c.next-2.ensures.carries c.in_ok-b.was in
    let z = carried_stops r c.in_ok-b.r a2.1 c.next-3.ensures.carries c.in_err-length.was in
    rw (← segment_carried r.bytes.now c.args.posts c.args.i r.at, a1.0, a2.0, z) (passed_on c.from_residual-in_err-length.ensures.1)

pub returns-in_err-check_numbers : goal.returns-in_err-check_numbers
unfolding the_segment_of triple_of
returns-in_err-check_numbers c =
    let r = c.args.r in
    let a1 = carried_steps r r refl c.next.ensures.carries c.in_ok-a.was in
    let a2 = carried_steps r c.in_ok-a.r a1.1 c.next-2.ensures.carries c.in_ok-b.was in
    let a3 = carried_steps r c.in_ok-b.r a2.1 c.next-3.ensures.carries c.in_ok-length.was in
    rw (← segment_carried r.bytes.now c.args.posts c.args.i r.at, a1.0, a2.0, a3.0, refused_lines _ _ _ c.check_numbers.ensures.checked c.in_err-check_numbers.was) (passed_on c.from_residual-in_err-check_numbers.ensures.1)

pub overflow_cast-segment : goal.overflow_cast-segment
overflow_cast-segment c = let s = segment_sound _ _ _ (sound_lines _ _ c.check_numbers.ensures.checked c.in_ok-check_numbers.was) in omega (arith, s.ends_sound.a_in, c.requires)

pub overflow_cast-segment-2 : goal.overflow_cast-segment-2
overflow_cast-segment-2 c = let s = segment_sound _ _ _ (sound_lines _ _ c.check_numbers.ensures.checked c.in_ok-check_numbers.was) in omega (arith, s.ends_sound.b_in, c.requires)

pub returns : goal.returns
unfolding the_segment_of triple_of
returns c =
    let r = c.args.r in
    let a1 = carried_steps r r refl c.next.ensures.carries c.in_ok-a.was in
    let a2 = carried_steps r c.in_ok-a.r a1.1 c.next-2.ensures.carries c.in_ok-b.was in
    let a3 = carried_steps r c.in_ok-b.r a2.1 c.next-3.ensures.carries c.in_ok-length.was in
    rw (← segment_carried r.bytes.now c.args.posts c.args.i r.at, a1.0, a2.0, a3.0, sound_lines _ _ c.check_numbers.ensures.checked c.in_ok-check_numbers.was, ← a3.1)
