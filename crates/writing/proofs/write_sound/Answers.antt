-- `write_sound` meets its contract: 8, 18, or the record. Assumes nothing.
use mathlib.Core.Path.{ap}
use Prim.Native.Nat.{◌+◌}
use native.Mathlib.Omega.{arith}
use Rattle.net.specs.Refusals.{passed_of}
use Rattle.net.proofs.Checks.{passed_on}
use Rattle.net.proofs.Ready.{ready_few}
use Rattle.writing.proofs.Writes.{few_writes, whole_length, short_writes, long_writes}
use Rattle.writing.proofs.write_sound.Goals as goal

pub returns-in_err-net : goal.returns-in_err-net
returns-in_err-net c = record { writes = few_writes c.args.net.sound c.args.room.now c.rated.ensures.answers (ap passed_of c.in_err-net.was) (passed_on c.from_residual.ensures.1) }

pub overflow_cast-net : goal.overflow_cast-net
overflow_cast-net c = omega (arith, ready_few c.in_ok-net.net.sound)

pub returns-then-room-whole : goal.returns-then-room-whole
returns-then-room-whole c = record {
  writes = let n = c.in_ok-net.net in
      let h = c.head_size in
      let o = c.own_size in
      let s = c.segments_size in
      rw c.in_ok-net.ensures.same at (short_writes n.sound n.rated c.args.room.now {whole = h.result + o.result + s.result} (omega (arith, whole_length n.sound n.rated, h.ensures.0, o.ensures.0, s.ensures.0)) (omega arith) c.refuse.ensures.refused);
}

pub put_net-requires : goal.put_net-requires
put_net-requires c = let n = c.in_ok-net.net in omega (arith, whole_length n.sound n.rated, c.head_size.ensures.0, c.own_size.ensures.0, c.segments_size.ensures.0)

pub returns : goal.returns
returns c = record {
  writes = let n = c.in_ok-net.net in
      let h = c.head_size in
      let o = c.own_size in
      let s = c.segments_size in
      rw c.in_ok-net.ensures.same at (long_writes n.sound n.rated c.args.room.now {whole = h.result + o.result + s.result} (omega (arith, whole_length n.sound n.rated, h.ensures.0, o.ensures.0, s.ensures.0)) (omega arith) c.put_net.ensures);
}
