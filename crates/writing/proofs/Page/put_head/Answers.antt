-- `put_head` meets its contract: five numbers, each put behind the one before. Assumes nothing.
use native.Mathlib.Omega.{arith}
use lib.ListN.{length}
use Rattle.net.proofs.Ready.{ready_few}
use Rattle.writing.proofs.Puts.{numbers_length, numbers_runs, wrote_then}
use Rattle.writing.proofs.Writes.{head_small}
use Rattle.writing.proofs.Page.put_head.Goals as goal

pub put_number-requires : goal.put_number-requires
put_number-requires c = let n = c.args.net in ((head_small n.sound).0, omega (arith, numbers_length n.lists.head (length n.lists.segments.a.now)))

pub put_number-requires-2 : goal.put_number-requires-2
put_number-requires-2 c = let n = c.args.net in ((head_small n.sound).1, omega (arith, numbers_length n.lists.head (length n.lists.segments.a.now)))

pub put_number-requires-3 : goal.put_number-requires-3
put_number-requires-3 c = let n = c.args.net in ((head_small n.sound).2, omega (arith, numbers_length n.lists.head (length n.lists.segments.a.now)))

pub put_number-requires-4 : goal.put_number-requires-4
put_number-requires-4 c = let n = c.args.net in ((head_small n.sound).3, omega (arith, numbers_length n.lists.head (length n.lists.segments.a.now)))

pub overflow_cast-segments : goal.overflow_cast-segments
overflow_cast-segments c = omega (arith, ready_few c.args.net.sound)

pub put_number-requires-5 : goal.put_number-requires-5
put_number-requires-5 c = let n = c.args.net in ((head_small n.sound).4, omega (arith, numbers_length n.lists.head (length n.lists.segments.a.now)))

pub returns : goal.returns
returns c =
    let n = c.args.net in
    let w = wrote_then (wrote_then (wrote_then (wrote_then c.put_number.ensures c.put_number-2.ensures) c.put_number-3.ensures) c.put_number-4.ensures) c.put_number-5.ensures in
    rw (← numbers_runs n.lists.head (length n.lists.segments.a.now)) w
