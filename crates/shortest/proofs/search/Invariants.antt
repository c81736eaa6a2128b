-- `shortest::search` meets its contract: at the head of the loop settled notes are final (`Running`); one more post is settled in each turn.
use Prim.Native.Nat.{◌-◌}
use Rattle.net.proofs.Routes.{marked}
use Rattle.shortest.proofs.Running.{Running}
use Rattle.shortest.proofs.search.Given as goal

abbrev pub invariant-loop-u : goal.invariant-loop-u
invariant-loop-u l =
    Running l.net.segments.a.now l.net.segments.b.now l.net.segments.lengths.now l.present l.net.posts l.source l.initial.dist l.dist l.settled l.ladder

abbrev pub decreases-loop-u : goal.decreases-loop-u
decreases-loop-u l = 256 - marked l.settled
