-- `walk_from` meets its contract: each turn of its loop is one law of Turns. Assumes nothing.
use Rattle.std.proofs.Common.{arith, ◌∙◌}
use Rattle.between.proofs.Turns.{walk_end, looping, along_end, ahead_less, turn_asks, turn_fits, along_turn}
use Rattle.between.proofs.+walk_from.Goals as goal

pub returns-then-left-eq0 : goal.returns-then-left-eq0
returns-then-left-eq0 t c = λ g w. walk_end w c.if-left-eq0.true

pub walk_from-laid-requires : goal.walk_from-laid-requires
walk_from-laid-requires t c =
    let w = c.requires.turned in
    let l = looping w c.if-left-eq0.false (c.enter_post-laid.ensures _ (w.shown.enters _ w.is_post)) in (
      omega (arith, c.decreases, c.if-left-eq0.false),
      record {
        given = _;
        turned = turn_asks l (c.loop-c.invariant _ l) c.loop-c-test.true _ _ c.from-w.ensures c.at-i.ensures.read _ _
            c.from.ensures (c.from-far.ensures ∙ c.at.ensures.read) _ _ (c.try_from.ensures _);
      },
    )

pub overflow_add-laid : goal.overflow_add-laid
overflow_add-laid t c =
    let w = c.requires.turned in
    let l = looping w c.if-left-eq0.false (c.enter_post-laid.ensures _ (w.shown.enters _ w.is_post)) in
    omega (
      arith,
      turn_fits l (c.loop-c.invariant _ l) c.loop-c-test.true _ _ c.from-w.ensures c.at-i.ensures.read _ _
          c.from.ensures (c.from-far.ensures ∙ c.at.ensures.read) _ _ (c.try_from.ensures _) _ _ _
          (c.walk_from-laid.ensures _ (turn_asks l (c.loop-c.invariant _ l) c.loop-c-test.true _ _ c.from-w.ensures
          c.at-i.ensures.read _ _ c.from.ensures (c.from-far.ensures ∙ c.at.ensures.read) _ _ (c.try_from.ensures _))),
    )

pub loop-c-smaller : goal.loop-c-smaller
loop-c-smaller t c =
    let w = c.requires.turned in
    let l = looping w c.if-left-eq0.false (c.enter_post-laid.ensures _ (w.shown.enters _ w.is_post)) in
    ahead_less l (c.loop-c.invariant _ l) c.loop-c-test.true _ _ c.from-w.ensures c.at-i.ensures.read _
    c.at-c-in-loop-c.ensures.read

pub loop-c-preserved : goal.loop-c-preserved
loop-c-preserved t c = λ g l.
    along_turn l (c.loop-c.invariant _ l) c.loop-c-test.true _ _ c.from-w.ensures c.at-i.ensures.read _ _
    c.from.ensures (c.from-far.ensures ∙ c.at.ensures.read) _ _ (c.try_from.ensures _) _ _ _
    (c.walk_from-laid.ensures _ (turn_asks l (c.loop-c.invariant _ l) c.loop-c-test.true _ _ c.from-w.ensures
    c.at-i.ensures.read _ _ c.from.ensures (c.from-far.ensures ∙ c.at.ensures.read) _ _ (c.try_from.ensures _))) _ _
    (c.try_from-in-loop-c.ensures _) _ c.at-c-in-loop-c.ensures.read

pub returns : goal.returns
returns t c = λ g w.
    let en = c.enter_post-laid.ensures _ (w.shown.enters _ w.is_post) in
    along_end w c.if-left-eq0.false en (c.loop-c.invariant g (looping w c.if-left-eq0.false en)) c.loop-c-test.false
