-- `move_net` meets its contract: 30, then 20, then what writing leaves of the net in the form that is wanted. Assumes nothing.
use mathlib.Core.Path.{refl, sym, ◌∙◌}
use Rattle.moves.proofs.Tests.{same_form_law, forms_tested}
use Rattle.moves.proofs.Given.{Lent, own_fits, gives_thirty, gives_twenty, all_house, moved_ready, gives_written}
use Rattle.moves.proofs.move_net.Goals as goal

pub returns-then-eq : goal.returns-then-eq
returns-then-eq c =
    let w = c.args.wanted in
    let h = c.args.net.lists.head in
    gives_thirty w (record { ready = c.args.net.sound; rated = c.requires }) c.args.room.now ((same_form_law h.form w).passes (sym (forms_tested h.form w c.eq.ensures) ∙ c.if-eq.true)) c.refuse.ensures.refused

pub lowest_other-requires : goal.lowest_other-requires
lowest_other-requires c = own_fits (record { ready = c.args.net.sound; rated = c.requires }) c.own_count.ensures.counted

pub returns-in-Some : goal.returns-in-Some
returns-in-Some c =
    let w = c.args.wanted in
    let h = c.args.net.lists.head in
    gives_twenty w (record { ready = c.args.net.sound; rated = c.requires }) c.args.room.now ((same_form_law h.form w).fails (sym (forms_tested h.form w c.eq.ensures) ∙ c.if-eq.false))
    c.own_count.ensures.counted c.in-Some.ensures c.refuse-in-Some.ensures.refused

pub invariant_of-write_sound : goal.invariant_of-write_sound
invariant_of-write_sound c = record { sound = moved_ready c.args.wanted (record { ready = c.args.net.sound; rated = c.requires }) c.args.room.now refl }

pub returns : goal.returns
returns c =
    let w = c.args.wanted in
    let n = c.args.net.lists in
    let f : Lent n.head n.own.p.now n.own.q.now n.segments.a.now n.segments.b.now n.segments.lengths.now = record { ready = c.args.net.sound; rated = c.requires } in
    let ne = (same_form_law n.head.form w).fails (sym (forms_tested n.head.form w c.eq.ensures) ∙ c.if-eq.false) in
    gives_written w f c.args.room.now ne (all_house w f c.args.room.now ne c.own_count.ensures.counted c.in_default.ensures) refl c.write_sound.ensures.writes
