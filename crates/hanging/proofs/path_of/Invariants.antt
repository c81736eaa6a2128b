-- `hanging::path_of` meets its contract: at the head of the loop what was climbed and what is left make the path (`Climbing`).
use Prim.Native.Nat.{◌-◌}
use lib.ListN.{take}
use Rattle.hanging.proofs.Measures.{Climbing}
use Rattle.hanging.proofs.path_of.Given as goal

abbrev pub invariant-loop : goal.invariant-loop
invariant-loop l = Climbing l.segments.a.now l.segments.b.now l.segments.lengths.now l.posts (take l.posts l.tree) l.post (l.posts - l.counter) l.v l.total
