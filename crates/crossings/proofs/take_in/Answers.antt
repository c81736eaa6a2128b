-- `take_in` meets its contract: its answer is that of the check of a whole net (`checks`, proofs/Ways), and the first i places of the three lists hold the fields of the first i segments.
-- Assumes nothing.
use Rattle.std.proofs.Common.{◌≡◌, refl, ◌∙◌, ◌<◌, ◌≤◌, length, arith}
use Rattle.net.specs.Net.{most_segments}
use Rattle.net.specs.Ready.{ratios_in}
use Rattle.net.proofs.Checks.{passed_on, few_segments}
use Rattle.checks.proofs.Ways.{head_refused, own_refused, own_passed, segments_in_turn, sound_more, sound_all, refused_at}
use Rattle.crossings.proofs.Taking.{taken, taken_refused, field_a, field_b, field_length, field_more}
use Rattle.crossings.proofs.take_in.Goals as goal

pub returns-in_err-check_head : goal.returns-in_err-check_head
returns-in_err-check_head c = record {
  taken = let e = passed_on c.from_residual.ensures.1 in
      taken_refused e (e ∙ head_refused c.args.head (ratios_in c.args.own) c.args.list.now refl c.check_head.ensures.checked c.in_err-check_head.was);
}

pub returns-in_err-check_own : goal.returns-in_err-check_own
returns-in_err-check_own c = record {
  taken = let e = passed_on c.from_residual-in_err-check_own.ensures.1 in
      taken_refused e (e ∙ own_refused c.args.head (ratios_in c.args.own) c.args.list.now refl c.check_head.ensures.checked c.in_ok-check_head.was c.check_own.ensures.checked c.in_err-check_own.was);
}

pub bounds-a-i : goal.bounds-a-i
bounds-a-i c = omega (arith, few_segments c.args.head (length c.args.list.now) c.check_head.ensures.checked c.in_ok-check_head.was)

pub bounds-b-i : goal.bounds-b-i
bounds-b-i c = omega (arith, few_segments c.args.head (length c.args.list.now) c.check_head.ensures.checked c.in_ok-check_head.was)

pub bounds-lengths-i : goal.bounds-lengths-i
bounds-lengths-i c = omega (arith, few_segments c.args.head (length c.args.list.now) c.check_head.ensures.checked c.in_ok-check_head.was)

pub returns-in_err-check_segment : goal.returns-in_err-check_segment
returns-in_err-check_segment c = record {
  taken = let here : c.loop-i.i < length c.args.list.now = omega arith in
      let e = passed_on c.from_residual-in_err-check_segment.ensures.1 in
      let f = segments_in_turn c.args.head.posts c.args.list.now (refused_at c.loop-i.invariant.sound here c.check_segment.ensures.checked c.in_err-check_segment.was) in
      taken_refused e (e ∙ own_passed c.args.head (ratios_in c.args.own) c.args.list.now refl c.check_head.ensures.checked c.in_ok-check_head.was c.check_own.ensures.checked c.in_ok-check_own.was f);
}

pub loop-i-preserved : goal.loop-i-preserved
loop-i-preserved c =
    let z = c.args in
    let few : length z.list.now ≤ most_segments = few_segments z.head (length z.list.now) c.check_head.ensures.checked c.in_ok-check_head.was in
    let here : c.loop-i.i < length z.list.now = omega arith in
    let a = field_more field_a refl z.list.now z.a.now c.loop-i.i here (omega arith) in
    let b = field_more field_b refl z.list.now z.b.now c.loop-i.i here (omega arith) in
    let lengths = field_more field_length refl z.list.now z.lengths.now c.loop-i.i here (omega arith) in
    record {
      sound = sound_more c.loop-i.invariant.sound here c.check_segment.ensures.checked c.in_ok-check_segment.was;
      in_a = cc;
      in_b = cc;
      in_lengths = cc;
    }

pub returns : goal.returns
returns c = record {
  taken = let z = c.args in
      let inv = c.loop-i.invariant in
      let all : c.loop-i.i ≡ length z.list.now = omega arith in
      let f = segments_in_turn z.head.posts z.list.now (sound_all inv.sound (omega arith)) in
      rw (inv.in_a, inv.in_b, inv.in_lengths, all) (taken z.head z.own.p.now z.own.q.now z.list.now z.a.now z.b.now z.lengths.now
      (own_passed z.head (ratios_in z.own) z.list.now refl c.check_head.ensures.checked c.in_ok-check_head.was c.check_own.ensures.checked c.in_ok-check_own.was f));
}
