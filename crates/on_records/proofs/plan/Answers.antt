-- `plan` meets its contract: what building leaves of the net that was read. Assumes nothing.
use Rattle.on_records.proofs.Given.{read_front, plans_front, plans_read}
use Rattle.on_records.proofs.plan.Goals as goal

pub returns : goal.returns
returns c = record {
  planned = plans_read _ _ _ _ (read_front _ c.read.ensures.read c.in_ok-counted.was c.in_ok-counted.ensures.front)
      (plans_front _ _ _ _ _ c.net-net.ensures.net c.net-net.ensures.segments c.net-net.ensures.ratios c.build_sound.ensures.built c.in_ok-built.was);
}
