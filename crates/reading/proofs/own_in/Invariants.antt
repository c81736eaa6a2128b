-- `own_in` meets its contract. The loop's invariant says how far the posts are read. Assumes nothing.
use Rattle.reading.proofs.Owned.{Turn}
use Rattle.reading.proofs.own_in.Given as goal

abbrev pub invariant-loop-post : goal.invariant-loop-post
invariant-loop-post l = Turn l.fn.start l.source l.r l.post l.p l.q
