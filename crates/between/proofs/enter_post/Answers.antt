-- `enter_post` meets its contract: `enter_over` where the note is over the limit, `enter_under` where it is not. Assumes nothing.
use Rattle.between.proofs.Trying.{enter_over, enter_under}
use Rattle.between.proofs.enter_post.Goals as goal

pub returns-then-at : goal.returns-then-at
returns-then-at c = λ g en. enter_over en _ _ _ _ c.at.ensures.read c.at-2.ensures.read
    c.if-at.true _ _ c.requires (c.lay_path.ensures g _ en.direct)

pub returns-else-at : goal.returns-else-at
returns-else-at c = λ g en. enter_under en _ _ _ _ c.at.ensures.read c.at-2.ensures.read c.if-at.false
