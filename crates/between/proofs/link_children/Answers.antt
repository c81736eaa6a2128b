-- `link_children` meets its contract: each turn of its loop is one law of Links. Assumes nothing.
use Rattle.std.proofs.Common.{refl, arith}
use Rattle.between.proofs.Links.{indexed_turn}
use Rattle.between.proofs.link_children.Goals as goal

pub loop-i-preserved : goal.loop-i-preserved
loop-i-preserved c = indexed_turn c.loop-i.invariant c.requires.bare.0 (omega arith) (omega arith) (omega arith)
    (omega arith) _ _ refl refl _ _ c.adopt_both.ensures
