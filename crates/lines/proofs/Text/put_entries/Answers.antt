-- `put_entries` meets its contract: the entries are put post by post (`Entries`).
use Prim.Native.Nat.{◌<◌}
use native.Mathlib.Omega.{arith}
use lib.Seq.{length-take-le}
use Rattle.std.proofs.lemmas.List.{get_or-take}
use Rattle.lines.proofs.Entries.{entries_none, entries_room, entries_more, entries_all}
use Rattle.lines.proofs.Text.put_entries.Goals as goal

pub loop-v-init : goal.loop-v-init
loop-v-init c = entries_none _ _ _ _ (omega arith)

pub put_entry-requires : goal.put_entry-requires
put_entry-requires c =
    let h : c.loop-v.v < c.args.posts = omega (arith, length-take-le c.args.posts c.args.entries.now c.requires.posts_bound) in
    rw get_or-take (entries_room c.loop-v.invariant h c.requires.posts_bound_2)

pub loop-v-preserved : goal.loop-v-preserved
loop-v-preserved c =
    let h : c.loop-v.v < c.args.posts = omega (arith, length-take-le c.args.posts c.args.entries.now c.requires.posts_bound) in
    entries_more c.loop-v.invariant h (rw get_or-take at c.put_entry.ensures)

pub returns : goal.returns
returns c = entries_all c.loop-v.invariant (omega (arith, length-take-le c.args.posts c.args.entries.now c.requires.posts_bound))
