-- `Places::net` meets its contract: so many segments, and as many ratios as a net may have posts. Assumes nothing.
use Rattle.on_records.proofs.Given.{front_count, front_ratios}
use Rattle.on_records.proofs.Places.net.Goals as goal

pub returns-clause-ratios : goal.returns-clause-ratios
returns-clause-ratios c = front_ratios c.requires

pub returns-clause-segments : goal.returns-clause-segments
returns-clause-segments c = front_count c.requires
