-- `move_to` meets its contract: reads the record and, where it is good, writes the net in the form that is wanted. Assumes nothing.
use native.Mathlib.Omega.{arith}
use Rattle.on_records.proofs.Given.{read_front}
use Rattle.moves.proofs.Given.{moves_read}
use Rattle.moves.proofs.move_to.Goals as goal

pub move_net-requires : goal.move_net-requires
move_net-requires c = omega (arith, c.net.result.sound.sound.head_sound.posts_sound.few_posts, c.net.ensures.ratios)

pub returns : goal.returns
returns c = record { moved = moves_read _ _ _ (read_front _ c.read.ensures.read c.in_ok-counted.was c.in_ok-counted.ensures.front) c.net.ensures.net c.move_net.ensures }
