-- `put_limits` meets its contract: the limits are put at the front of the list, one after another. Assumes nothing.
use Rattle.net.proofs.Blend.{Put}
use Rattle.between.specs.Given.{limits_by}
use Rattle.between.proofs.put_limits.Given as goal

abbrev pub invariant-loop-v : goal.invariant-loop-v
invariant-loop-v l = Put (limits_by l.ratios.p.now l.ratios.q.now l.dist) l.initial.limits l.limits l.v
