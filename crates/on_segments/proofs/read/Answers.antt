-- `read` meets its contract: the segments that were read go to the front of the lent list. Assumes nothing.
use mathlib.Core.Path.{sym, ap}
use Rattle.on_segments.specs.Reading.{the_count_of}
use Rattle.on_segments.proofs.Laws.{reads_list}
use Rattle.on_segments.proofs.read.Goals as goal

pub returns : goal.returns
returns c =
    let z = c.args in
    let e = c.in_ok-counted.was in
    record { read = rw e at (reads_list z.bytes.now z.p.now z.q.now z.segments.now c.read_front.ensures (sym (ap the_count_of e)) c.put_out.ensures.put) }
