-- `put_out` meets its contract: each turn lays one more segment. Assumes nothing.
use Rattle.std.proofs.Common.{◌<◌, length, take, arith}
use lib.ListN.{length-take}
use Rattle.net.specs.Net.{beyond}
use Rattle.net.specs.Ready.{segments_in}
use Rattle.net.proofs.Segments.{in_each}
use Rattle.crossings.proofs.Lists.{laid_more}
use Rattle.crossings.proofs.put_out.Goals as goal

pub segment_at-requires : goal.segment_at-requires
segment_at-requires c =
    let s = c.args.segments in
    in_each s.a.now s.b.now s.lengths.now c.loop-i.i (omega (arith, c.segment_count.ensures.counted, length-take c.min-m.result c.args.list.now))

pub loop-i-preserved : goal.loop-i-preserved
loop-i-preserved c =
    let w = segments_in c.args.segments in
    let here : c.loop-i.i < length w = omega (arith, c.segment_count.ensures.counted, length-take c.min-m.result c.args.list.now) in
    let e = laid_more c.loop-i.i w (take c.min-m.result c.args.list.now) beyond here c.loop-i-test.true in
    cc
