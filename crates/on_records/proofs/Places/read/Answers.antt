-- `Places::read` meets its contract: reading's, with places for as many segments and posts as a net may have. Assumes nothing.
use borrow.Author.Rules.{rules}
use Rattle.on_records.specs.Asked.{record_read}
use Rattle.on_records.proofs.Given.{front_read}
use Rattle.on_records.proofs.Places.read.Goals as goal

pub returns : goal.returns
unfolding record_read
returns c = record { read = c.read_in.ensures.reads; front = let z = c.read_in.auto in front_read _ c.read_in.ensures.reads (search rules) (search rules) (search rules) (search rules) (search rules) }
