-- `put_parents` meets its contract: the parents are put at the front of the list, one after another. Assumes nothing.
use Rattle.net.proofs.Blend.{Put}
use Rattle.between.specs.Given.{parents_by}
use Rattle.between.proofs.put_parents.Given as goal

abbrev pub invariant-loop-v : goal.invariant-loop-v
invariant-loop-v l = Put (parents_by l.segments.a.now l.segments.b.now l.shortest) l.initial.up l.up l.v
