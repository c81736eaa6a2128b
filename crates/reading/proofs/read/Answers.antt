-- `read` meets its contract: where the record is good its posts' own ratios and its segments are laid over the lent lists. Assumes nothing.
use native.Mathlib.Omega.{arith}
use lib.ListN.{length-take}
use Rattle.net.proofs.Checks.{passed_on}
use Rattle.net.proofs.Own.{ratios_count}
use Rattle.net.proofs.Segments.{segments_count}
use Rattle.reading.proofs.Kept.{read_net, reads_refused, reads_got}
use Rattle.reading.proofs.read.Goals as goal

pub returns-in_err-counted : goal.returns-in_err-counted
returns-in_err-counted c =
    rw (passed_on c.from_residual.ensures.1) (record { reads = reads_refused c.args.bytes.now c.args.p.now c.args.q.now c.args.a.now c.args.b.now c.args.lengths.now (omega (arith, segments_count c.args.a.now c.args.b.now c.args.lengths.now)) (omega (arith, ratios_count c.args.p.now c.args.q.now)) c.read_in.ensures.reads c.in_err-counted.was })

pub lay_ratios-requires : goal.lay_ratios-requires
lay_ratios-requires c =
    let n = read_net c.args.bytes.now c.min-room.result c.min-ratios.result c.read_in.ensures.reads c.read_in.auto.a c.read_in.auto.b c.read_in.auto.lengths c.in_ok-counted.was in
    let f = n.ready.sound.head_sound.posts_sound.few_posts in
    (omega (arith, c.read_in.auto.p), omega (arith, c.read_in.auto.q), omega (arith, n.enough_ratios), omega (arith, n.enough_ratios))

pub slice_bounds-x-end : goal.slice_bounds-x-end
slice_bounds-x-end c =
    let n = read_net c.args.bytes.now c.min-room.result c.min-ratios.result c.read_in.ensures.reads c.read_in.auto.a c.read_in.auto.b c.read_in.auto.lengths c.in_ok-counted.was in
    omega (arith, n.few, c.read_in.auto.a)

pub slice_bounds-segments-end : goal.slice_bounds-segments-end
slice_bounds-segments-end c =
    let n = read_net c.args.bytes.now c.min-room.result c.min-ratios.result c.read_in.ensures.reads c.read_in.auto.a c.read_in.auto.b c.read_in.auto.lengths c.in_ok-counted.was in
    simp length-take (omega (arith, n.few, c.read_in.auto.a))

pub slice_bounds-y-end : goal.slice_bounds-y-end
slice_bounds-y-end c =
    let n = read_net c.args.bytes.now c.min-room.result c.min-ratios.result c.read_in.ensures.reads c.read_in.auto.a c.read_in.auto.b c.read_in.auto.lengths c.in_ok-counted.was in
    omega (arith, n.few, c.read_in.auto.b)

pub slice_bounds-segments-end-2 : goal.slice_bounds-segments-end-2
slice_bounds-segments-end-2 c =
    let n = read_net c.args.bytes.now c.min-room.result c.min-ratios.result c.read_in.ensures.reads c.read_in.auto.a c.read_in.auto.b c.read_in.auto.lengths c.in_ok-counted.was in
    simp length-take (omega (arith, n.few, c.read_in.auto.b))

pub slice_bounds-z-end : goal.slice_bounds-z-end
slice_bounds-z-end c =
    let n = read_net c.args.bytes.now c.min-room.result c.min-ratios.result c.read_in.ensures.reads c.read_in.auto.a c.read_in.auto.b c.read_in.auto.lengths c.in_ok-counted.was in
    omega (arith, n.few, c.read_in.auto.lengths)

pub slice_bounds-segments-end-3 : goal.slice_bounds-segments-end-3
slice_bounds-segments-end-3 c =
    let n = read_net c.args.bytes.now c.min-room.result c.min-ratios.result c.read_in.ensures.reads c.read_in.auto.a c.read_in.auto.b c.read_in.auto.lengths c.in_ok-counted.was in
    simp length-take (omega (arith, n.few, c.read_in.auto.lengths))

pub lay-requires : goal.lay-requires
lay-requires c =
    let n = read_net c.args.bytes.now c.min-room.result c.min-ratios.result c.read_in.ensures.reads c.read_in.auto.a c.read_in.auto.b c.read_in.auto.lengths c.in_ok-counted.was in
    (n.ready.b_level, n.ready.lengths_level, omega (arith, n.long, n.enough), omega (arith, n.long, n.enough), omega (arith, n.long, n.enough))

pub returns : goal.returns
returns c =
    let n = read_net c.args.bytes.now c.min-room.result c.min-ratios.result c.read_in.ensures.reads c.read_in.auto.a c.read_in.auto.b c.read_in.auto.lengths c.in_ok-counted.was in
    record { reads = reads_got c.args.bytes.now c.args.p.now c.args.q.now c.args.a.now c.args.b.now c.args.lengths.now (omega (arith, segments_count c.args.a.now c.args.b.now c.args.lengths.now)) (omega (arith, ratios_count c.args.p.now c.args.q.now)) c.read_in.ensures.reads n c.lay_ratios.ensures.p_laid c.lay_ratios.ensures.q_laid c.lay.ensures.a_after c.lay.ensures.b_after c.lay.ensures.lengths_after }
