-- `hand` meets its contract: what a move answers and leaves is what is handed on. Assumes nothing.
use Rattle.moving.proofs.Given.{moved_hands, refused_hands}
use Rattle.moving.proofs.hand.Goals as goal

pub returns-in-Ok : goal.returns-in-Ok
returns-in-Ok c = moved_hands _ _ _ c.requires c.in-Ok.ensures.moved

pub returns-in-Err : goal.returns-in-Err
returns-in-Err c = refused_hands _ _ _ c.requires c.in-Err.ensures.moved c.put_refused.ensures.put
