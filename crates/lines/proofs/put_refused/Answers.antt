-- `put_refused` meets its contract: four texts, each behind the other, of at most 30 bytes.
use native.Mathlib.Omega.{arith}
use Rattle.std.proofs.Common.{rules}
use Rattle.lines.specs.Text.{refused_line}
use Rattle.lines.proofs.Placing.{wrote_then}
use Rattle.lines.proofs.Lengths.{refused_length, refused_30}
use Rattle.lines.proofs.put_refused.Goals as goal

pub put_spaced-requires : goal.put_spaced-requires
put_spaced-requires c = omega (arith, refused_length c.args.refusal.number c.args.refusal.place, refused_30 c.args.refusal.number c.args.refusal.place (omega arith) (omega arith))

pub put_spaced-requires-2 : goal.put_spaced-requires-2
put_spaced-requires-2 c = omega (arith, refused_length c.args.refusal.number c.args.refusal.place, refused_30 c.args.refusal.number c.args.refusal.place (omega arith) (omega arith))

pub put_byte-requires : goal.put_byte-requires
put_byte-requires c = omega (arith, refused_length c.args.refusal.number c.args.refusal.place, refused_30 c.args.refusal.number c.args.refusal.place (omega arith) (omega arith))

pub returns : goal.returns
unfolding refused_line
returns c =
    let w = wrote_then (wrote_then (wrote_then c.put_bytes.ensures c.put_spaced.ensures) c.put_spaced-2.ensures) c.put_byte.ensures in
    let p = w.put in
    let e = w.room in
    record { put = search rules }
