-- `rated` meets its contract: 8 is given where the shorter list has fewer places than there are posts. Assumes nothing.
use mathlib.Core.Path.{ap, ◌∙◌}
use Prim.Native.Nat.{◌≤◌, ◌<◌}
use native.Mathlib.Omega.{arith}
use borrow.Author.Tests.{lt-ltb, le-ltb}
use Rattle.net.specs.Ready.{ratio_count_in}
use Rattle.net.specs.Refusals.{first, room_of_ratios, passed_of}
use Rattle.net.proofs.Own.{ratios_count}
use Rattle.checks.proofs.rated.Goals as goal

pub returns-then-min-net-clause-answers : goal.returns-then-min-net-clause-answers
unfolding room_of_ratios first
returns-then-min-net-clause-answers c =
    let n = c.args.net.lists in
    let h : ratio_count_in n.own < n.head.posts = omega (arith, ratios_count n.own.p.now n.own.q.now) in
    ap passed_of c.refuse.ensures.refused ∙ rw (lt-ltb _ _ h)

pub invariant_of-result : goal.invariant_of-result
invariant_of-result c = let n = c.args.net.lists in record { sound = c.args.net.sound; rated = omega (arith, ratios_count n.own.p.now n.own.q.now) }

pub returns-clause-answers : goal.returns-clause-answers
unfolding room_of_ratios first
returns-clause-answers c =
    let n = c.args.net.lists in
    let h : n.head.posts ≤ ratio_count_in n.own = omega (arith, ratios_count n.own.p.now n.own.q.now) in
    rw (le-ltb _ _ h)
