-- `shortest::search` meets its contract: at the head of the loop settled notes are final (`Running`); one more post is settled in each turn.
use mathlib.Core.Path.{◌∙◌}
use native.Mathlib.Omega.{arith}
use Rattle.shortest.proofs.Ladder.{ladder_none}
use Rattle.shortest.proofs.Running.{run, more_settled, flags_more, room, turn, finish}
use Rattle.shortest.proofs.search.Goals as goal

pub clear-requires-clause-ladder : goal.clear-requires-clause-ladder
clear-requires-clause-ladder c = ladder_none c.requires.source_lt_posts.1

pub loop-u-init : goal.loop-u-init
loop-u-init c = let k = c.clear in run c.requires.source_lt_posts.1 k.ensures.cleared k.auto.ladder k.ensures.written

pub bounds-settled-u : goal.bounds-settled-u
bounds-settled-u c = let N = c.in-Some.ensures.is c.loop-u.invariant.open_posts in omega (arith, N.0, c.requires.source_lt_posts)

pub write_up-requires-clause-v_lt_posts : goal.write_up-requires-clause-v_lt_posts
write_up-requires-clause-v_lt_posts c =
    let R = c.loop-u.invariant in
    let N = c.in-Some.ensures.is R.open_posts in
    (N.0, omega (arith, R.rungs, c.requires.source_lt_posts))

pub relax-requires-clause-u_lt_posts : goal.relax-requires-clause-u_lt_posts
relax-requires-clause-u_lt_posts c =
    let p = c.requires.source_lt_posts in
    let R = c.loop-u.invariant in
    let N = c.in-Some.ensures.is R.open_posts in
    let w = c.write_up.auto.ladder in
    (N.0, N.2, omega (arith, p.1, flags_more R N p.1), omega (arith, p.2, R.same, c.clear.auto.dist), omega (arith, p.1, R.rungs, w))

pub loop-u-smaller : goal.loop-u-smaller
loop-u-smaller c =
    let f = c.requires.source_lt_posts.1 in
    let R = c.loop-u.invariant in
    let N = c.in-Some.ensures.is R.open_posts in
    omega (arith, more_settled R N f, room R N f)

pub loop-u-preserved : goal.loop-u-preserved
loop-u-preserved c =
    let p = c.requires in
    let R = c.loop-u.invariant in
    let N = c.in-Some.ensures.is R.open_posts in
    let r = c.relax in
    turn R N p.source_lt_posts.1 p.sides p.source_lt_posts.0 r.auto.dist r.ensures.relaxed
    (r.auto.ladder ∙ c.write_up.auto.ladder ∙ R.rungs) r.ensures.open_posts_2

pub returns : goal.returns
returns c =
    let p = c.requires in
    let q = p.source_lt_posts in
    let R = c.loop-u.invariant in
    record {
      least_lengths = finish c.args.dist.now p.sides q.0 q.2 c.clear.auto.dist R (c.in_default.ensures.is R.open_posts) c.clear.ensures.cleared;
    }
