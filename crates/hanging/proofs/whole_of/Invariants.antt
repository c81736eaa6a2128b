-- `hanging::whole_of` meets its contract: at the head of the loop the lengths of the entries passed are added up (`Adding`).
use Prim.Native.Nat.{◌≤◌}
use lib.ListN.{length}
use Rattle.hanging.proofs.Measures.{Adding}
use Rattle.hanging.proofs.whole_of.Given as goal

abbrev pub invariant-loop-e : goal.invariant-loop-e
invariant-loop-e l = (l.e-index ≤ length l.e-items) × Adding l.lengths l.e-items l.e-index l.total
