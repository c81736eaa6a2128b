-- `read_in` meets its contract: from step to step, what was read or the refusal, by the laws of Kept. Assumes nothing.
use Prim.Native.Nat.{ℕ}
use mathlib.Core.Path.{refl, ◌∙◌}
use mathlib.Core.List.{List}
use native.Mathlib.Omega.{arith}
use Rattle.net.proofs.Checks.{passed_on}
use Rattle.numbers.specs.declared.reader.Reader.{Reader}
use Rattle.reading.specs.Reading.{formed, headed, posts, segments}
use Rattle.reading.specs.Answers.{the_own_posts}
use Rattle.writing.proofs.Lines.{refused_lines, sound_lines}
use Rattle.reading.proofs.Carried.{stops, steps, heading_steps, row_steps}
use Rattle.reading.proofs.Kept.{read_refused, head_is, start_near, head_near, form_refused, head_refused, lines_refused, few_posts, few_own, few_segments, room_short, ratios_short, own_refused, mid_near, segments_refused, end_near, bytes_left, all_read}
use Rattle.reading.proofs.read_in.Goals as goal
use Rattle.reading.proofs.read_in.Goals.{then-room-count-via-then-room-count, then-room-count-via-else-room-count+then-ratios-head}

pub returns-in_err-form : goal.returns-in_err-form
returns-in_err-form c =
    let s : Reader = record { bytes = c.args.bytes; at = 0 } in
    rw (passed_on c.from_residual.ensures.1) (record { reads = read_refused _ _ _ _ _ (form_refused _ _ _ (stops formed s s refl _ (rw c.new.ensures.made at c.form_at.ensures) c.in_err-form.was)) })

pub head_at-requires : goal.head_at-requires
head_at-requires c =
    let s : Reader = record { bytes = c.args.bytes; at = 0 } in
    let f = steps s s refl formed (rw c.new.ensures.made at c.form_at.ensures) c.in_ok-form.was in
    omega (arith, start_near _ f.0)

pub returns-in_err-counted : goal.returns-in_err-counted
returns-in_err-counted c =
    let s : Reader = record { bytes = c.args.bytes; at = 0 } in
    let f = steps s s refl formed (rw c.new.ensures.made at c.form_at.ensures) c.in_ok-form.was in
    rw (passed_on c.from_residual-in_err-counted.ensures.1) (record { reads = read_refused _ _ _ _ _ (head_refused _ _ _ f.0 (stops (λ (l : List ℕ). headed l c.in_ok-form.form) s c.in_ok-form.r f.1 _ c.head_at.ensures c.in_err-counted.was)) })

pub returns-in_err-check_head : goal.returns-in_err-check_head
returns-in_err-check_head c =
    let s : Reader = record { bytes = c.args.bytes; at = 0 } in
    let f = steps s s refl formed (rw c.new.ensures.made at c.form_at.ensures) c.in_ok-form.was in
    let h = heading_steps s c.in_ok-form.r f.1 (λ (l : List ℕ). headed l c.in_ok-form.form) c.head_at.ensures c.in_ok-counted.was in
    let e = head_is _ f.0 h.0 in
    rw (passed_on c.from_residual-in_err-check_head.ensures.1) (record { reads = read_refused _ _ _ _ _ (lines_refused _ _ _ e (refused_lines _ _ _ c.check_head.ensures.checked c.in_err-check_head.was)) })

pub returns-then-room-count : goal.returns-then-room-count
returns-then-room-count c =
    let s : Reader = record { bytes = c.args.bytes; at = 0 } in
    let f = steps s s refl formed (rw c.new.ensures.made at c.form_at.ensures) c.in_ok-form.was in
    let h = heading_steps s c.in_ok-form.r f.1 (λ (l : List ℕ). headed l c.in_ok-form.form) c.head_at.ensures c.in_ok-counted.was in
    let e = head_is _ f.0 h.0 in
    let g = sound_lines _ _ c.check_head.ensures.checked c.in_ok-check_head.was in
    rw c.refuse.ensures.refused
    (elim c.then-room-count.branch [
      | then-room-count-via-then-room-count w ↦ record { reads = read_refused _ _ _ _ _ (room_short _ _ _ e g w.if-room-count.true) }
      | then-room-count-via-else-room-count+then-ratios-head w ↦ record { reads = read_refused _ _ _ _ _ (ratios_short _ _ _ e g (omega (arith, w.if-room-count.false)) w.if-ratios-head.true) }
    ])

pub own_in-requires : goal.own_in-requires
own_in-requires c =
    let s : Reader = record { bytes = c.args.bytes; at = 0 } in
    let f = steps s s refl formed (rw c.new.ensures.made at c.form_at.ensures) c.in_ok-form.was in
    let h = heading_steps s c.in_ok-form.r f.1 (λ (l : List ℕ). headed l c.in_ok-form.form) c.head_at.ensures c.in_ok-counted.was in
    let e = head_is _ f.0 h.0 in
    let g = sound_lines _ _ c.check_head.ensures.checked c.in_ok-check_head.was in
    (omega (arith, head_near _ f.0 h.0), rw c.own_count.ensures.counted (few_own _ c.args.room c.args.ratios e g), c.requires.0, c.requires.1)

pub returns-in_err-r : goal.returns-in_err-r
returns-in_err-r c =
    let s : Reader = record { bytes = c.args.bytes; at = 0 } in
    let f = steps s s refl formed (rw c.new.ensures.made at c.form_at.ensures) c.in_ok-form.was in
    let h = heading_steps s c.in_ok-form.r f.1 (λ (l : List ℕ). headed l c.in_ok-form.form) c.head_at.ensures c.in_ok-counted.was in
    let e = head_is _ f.0 h.0 in
    let g = sound_lines _ _ c.check_head.ensures.checked c.in_ok-check_head.was in
    let z = stops (λ (l : List ℕ). posts l c.in_ok-counted.counted.head.source 0 c.own_count.result) s c.in_ok-counted.r h.1 _ c.own_in.ensures.answers c.in_err-r.was in
    rw (passed_on c.from_residual-in_err-r.ensures.1) (record { reads = read_refused _ _ _ _ _ (own_refused _ _ _ e g (omega arith) (omega arith) (rw c.own_count.ensures.counted at z)) })

pub segments_in-requires : goal.segments_in-requires
segments_in-requires c =
    let s : Reader = record { bytes = c.args.bytes; at = 0 } in
    let f = steps s s refl formed (rw c.new.ensures.made at c.form_at.ensures) c.in_ok-form.was in
    let h = heading_steps s c.in_ok-form.r f.1 (λ (l : List ℕ). headed l c.in_ok-form.form) c.head_at.ensures c.in_ok-counted.was in
    let e = head_is _ f.0 h.0 in
    let g = sound_lines _ _ c.check_head.ensures.checked c.in_ok-check_head.was in
    let o = row_steps s c.in_ok-counted.r h.1 (λ (l : List ℕ). posts l c.in_ok-counted.counted.head.source 0 (the_own_posts c.in_ok-counted.counted.head.form c.in_ok-counted.counted.head.posts)) (rw c.own_count.ensures.counted at c.own_in.ensures.answers) c.in_ok-r.was in
    (omega (arith, head_near _ f.0 h.0, mid_near _ c.args.room c.args.ratios e g (omega arith) (omega arith) o.0.is), few_posts _ c.args.room c.args.ratios e g, few_segments _ c.args.room c.args.ratios e g, c.requires.2, c.requires.3, c.requires.4)

pub returns-in_err-r-2 : goal.returns-in_err-r-2
returns-in_err-r-2 c =
    let s : Reader = record { bytes = c.args.bytes; at = 0 } in
    let f = steps s s refl formed (rw c.new.ensures.made at c.form_at.ensures) c.in_ok-form.was in
    let h = heading_steps s c.in_ok-form.r f.1 (λ (l : List ℕ). headed l c.in_ok-form.form) c.head_at.ensures c.in_ok-counted.was in
    let e = head_is _ f.0 h.0 in
    let g = sound_lines _ _ c.check_head.ensures.checked c.in_ok-check_head.was in
    let o = row_steps s c.in_ok-counted.r h.1 (λ (l : List ℕ). posts l c.in_ok-counted.counted.head.source 0 (the_own_posts c.in_ok-counted.counted.head.form c.in_ok-counted.counted.head.posts)) (rw c.own_count.ensures.counted at c.own_in.ensures.answers) c.in_ok-r.was in
    let z = stops (λ (l : List ℕ). segments l c.in_ok-counted.counted.head.posts 0 c.in_ok-counted.counted.count) s c.in_ok-r.r o.1 _ c.segments_in.ensures.answers c.in_err-r-2.was in
    rw (passed_on c.from_residual-in_err-r-2.ensures.1) (record { reads = read_refused _ _ _ _ _ (segments_refused _ _ _ e g (omega arith) (omega arith) o.0.is z) })

pub overflow_cast-place : goal.overflow_cast-place
overflow_cast-place c =
    let s : Reader = record { bytes = c.args.bytes; at = 0 } in
    let f = steps s s refl formed (rw c.new.ensures.made at c.form_at.ensures) c.in_ok-form.was in
    let h = heading_steps s c.in_ok-form.r f.1 (λ (l : List ℕ). headed l c.in_ok-form.form) c.head_at.ensures c.in_ok-counted.was in
    let e = head_is _ f.0 h.0 in
    let g = sound_lines _ _ c.check_head.ensures.checked c.in_ok-check_head.was in
    let o = row_steps s c.in_ok-counted.r h.1 (λ (l : List ℕ). posts l c.in_ok-counted.counted.head.source 0 (the_own_posts c.in_ok-counted.counted.head.form c.in_ok-counted.counted.head.posts)) (rw c.own_count.ensures.counted at c.own_in.ensures.answers) c.in_ok-r.was in
    let k = row_steps s c.in_ok-r.r o.1 (λ (l : List ℕ). segments l c.in_ok-counted.counted.head.posts 0 c.in_ok-counted.counted.count) c.segments_in.ensures.answers c.in_ok-r-2.was in
    omega (arith, head_near _ f.0 h.0, mid_near _ c.args.room c.args.ratios e g (omega arith) (omega arith) o.0.is, end_near _ c.args.room c.args.ratios e g (omega arith) (omega arith) o.0.is k.0.is)

pub returns-then-r-bytes : goal.returns-then-r-bytes
returns-then-r-bytes c =
    let s : Reader = record { bytes = c.args.bytes; at = 0 } in
    let f = steps s s refl formed (rw c.new.ensures.made at c.form_at.ensures) c.in_ok-form.was in
    let h = heading_steps s c.in_ok-form.r f.1 (λ (l : List ℕ). headed l c.in_ok-form.form) c.head_at.ensures c.in_ok-counted.was in
    let e = head_is _ f.0 h.0 in
    let g = sound_lines _ _ c.check_head.ensures.checked c.in_ok-check_head.was in
    let o = row_steps s c.in_ok-counted.r h.1 (λ (l : List ℕ). posts l c.in_ok-counted.counted.head.source 0 (the_own_posts c.in_ok-counted.counted.head.form c.in_ok-counted.counted.head.posts)) (rw c.own_count.ensures.counted at c.own_in.ensures.answers) c.in_ok-r.was in
    let k = row_steps s c.in_ok-r.r o.1 (λ (l : List ℕ). segments l c.in_ok-counted.counted.head.posts 0 c.in_ok-counted.counted.count) c.segments_in.ensures.answers c.in_ok-r-2.was in
    rw c.refuse-then-r-bytes.ensures.refused (record { reads = read_refused _ _ _ _ _ (bytes_left _ _ _ e g (omega arith) (omega arith) o.0.is k.0.is c.if-r-bytes.true) })

pub returns : goal.returns
returns c =
    let s : Reader = record { bytes = c.args.bytes; at = 0 } in
    let f = steps s s refl formed (rw c.new.ensures.made at c.form_at.ensures) c.in_ok-form.was in
    let h = heading_steps s c.in_ok-form.r f.1 (λ (l : List ℕ). headed l c.in_ok-form.form) c.head_at.ensures c.in_ok-counted.was in
    let e = head_is _ f.0 h.0 in
    let g = sound_lines _ _ c.check_head.ensures.checked c.in_ok-check_head.was in
    let o = row_steps s c.in_ok-counted.r h.1 (λ (l : List ℕ). posts l c.in_ok-counted.counted.head.source 0 (the_own_posts c.in_ok-counted.counted.head.form c.in_ok-counted.counted.head.posts)) (rw c.own_count.ensures.counted at c.own_in.ensures.answers) c.in_ok-r.was in
    let k = row_steps s c.in_ok-r.r o.1 (λ (l : List ℕ). segments l c.in_ok-counted.counted.head.posts 0 c.in_ok-counted.counted.count) c.segments_in.ensures.answers c.in_ok-r-2.was in
    let p = c.own_in.auto.p ∙ c.requires.0 in
    let q = c.own_in.auto.q ∙ c.requires.1 in
    record { reads = all_read _ _ _ e g (omega arith) (omega arith) o.0.is k.0.is (omega arith) p q (rw (c.own_count.ensures.counted, h.1) at c.own_in.ensures.stored) (rw o.1 at c.segments_in.ensures.stored) }
