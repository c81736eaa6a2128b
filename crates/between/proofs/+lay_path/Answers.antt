-- `lay_path` meets its contract: each of its two ways out is one law of Trying. Assumes nothing.
use Rattle.std.proofs.Common.{◌∙◌}
use Rattle.between.proofs.Trying.{lay_far, lay_near}
use Rattle.between.proofs.+lay_path.Goals as goal

pub returns-then-at : goal.returns-then-at
returns-then-at t c = λ g k dir deep.
    lay_far dir k _ _ _ _ _ c.at.ensures.read c.at-2.ensures.read c.requires c.if-at.true deep _ _ _ _ _
    c.at-i.ensures.read c.at-then-at.ensures.read c.from-u.ensures c.from.ensures
    (c.from-long.ensures ∙ c.at-then-at-2.ensures.read) _ _ (c.lay_path.ensures g _ dir) (c.try_from.ensures g)

pub returns-else-at : goal.returns-else-at
returns-else-at t c = λ g k dir deep.
    lay_near dir k _ _ _ _ _ c.at.ensures.read c.at-2.ensures.read c.if-at.false
