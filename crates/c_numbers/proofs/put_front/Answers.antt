-- `put_front` meets its contract: the numbers stand at the list's front, as far as it goes. Assumes nothing.
use Rattle.c_numbers.proofs.Fronts.{front_cut}
use Rattle.c_numbers.proofs.put_front.Goals as goal

pub returns : goal.returns
returns g c = record { put = rw c.copy_from_slice.ensures.after (front_cut _ _ _ c.min-n.ensures) }
