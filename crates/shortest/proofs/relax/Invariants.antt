-- `shortest::relax` meets its contract: at the head of the loop what is not offered yet is still on the row (`Walking`), and the ladder has the notes of the open posts; codes fall.
use mathlib.Core.Path.{◌≡◌}
use lib.ListN.{length}
use Rattle.hanging.specs.Lists.{flag, note}
use Rattle.shortest.specs.Ladder.{OpenPosts}
use Rattle.shortest.proofs.Rows.{Walking}
use Rattle.shortest.proofs.relax.Given as goal

abbrev pub invariant-loop-c : goal.invariant-loop-c
invariant-loop-c l =
    Walking l.segments.a.now l.segments.b.now l.segments.lengths.now l.present l.net.next.now l.u l.du l.c l.initial.dist l.dist
    × (length l.ladder ≡ length l.initial.ladder) × OpenPosts l.net.posts (note l.dist) (flag l.settled) (note l.ladder)

abbrev pub decreases-loop-c : goal.decreases-loop-c
decreases-loop-c l = l.c
