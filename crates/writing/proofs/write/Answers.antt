-- `write` meets its contract: a refusal of 1 to 7. Assumes nothing.
use mathlib.Core.Path.{ap}
use Rattle.net.specs.Ready.{ratios_in, segments_in}
use Rattle.net.specs.Refusals.{passed_of}
use Rattle.net.proofs.Checks.{passed_on}
use Rattle.writing.proofs.Writes.{check_refuses}
use Rattle.writing.proofs.write.Goals as goal

pub returns-in_err-sound : goal.returns-in_err-sound
returns-in_err-sound c = let n = c.args.net in record {
  writes = check_refuses n.head (ratios_in n.own) (segments_in n.segments) c.args.room.now c.sound.ensures.answers (ap passed_of c.in_err-sound.was) (passed_on c.from_residual.ensures.1);
}
