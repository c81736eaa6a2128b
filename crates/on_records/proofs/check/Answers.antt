-- `check` meets its contract: what reading says of the record. Assumes nothing.
use Rattle.on_records.specs.Asked.{record_read}
use Rattle.on_records.proofs.check.Goals as goal

pub returns : goal.returns
unfolding record_read
returns c = record { checked = c.check_record.ensures.checks }
