-- `fill_number` meets its contract. The loop's invariant says which groups stand in the room; each turn is a law of Loops. Assumes nothing.
use mathlib.Core.Path.{refl}
use native.Mathlib.Omega.{arith}
use Rattle.numbers.proofs.Loops.{begin_filling, has_room, fill_more, fill_size, fill_last}
use Rattle.numbers.proofs.fill_number.Goals as goal

pub loop-rest-init : goal.loop-rest-init
loop-rest-init c = begin_filling _ _ c.requires.0 c.requires.1

pub bounds-room-k : goal.bounds-room-k
bounds-room-k c = has_room c.loop-rest.invariant

pub loop-rest-preserved : goal.loop-rest-preserved
loop-rest-preserved c = fill_more c.loop-rest.invariant (omega arith) _ refl

pub bounds-room-k-2 : goal.bounds-room-k-2
bounds-room-k-2 c = has_room c.loop-rest.invariant

pub returns : goal.returns
returns c = (fill_size c.loop-rest.invariant (omega arith), fill_last c.loop-rest.invariant (omega arith))
