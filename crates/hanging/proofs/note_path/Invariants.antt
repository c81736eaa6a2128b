-- `hanging::note_path` meets its contract: at the head of the loop the posts passed are noted, and what is left is the path of the next (`Noting`).
use lib.ListN.{take}
use Rattle.net.specs.Ready.{segments_in}
use Rattle.hanging.proofs.Paths.{steps, Noting}
use Rattle.hanging.proofs.note_path.Given as goal

abbrev pub invariant-loop-paths : goal.invariant-loop-paths
invariant-loop-paths l = Noting (segments_in l.segments) l.tree.posts (take l.tree.posts l.tree.tree.now) l.post l.initial.paths l.paths l.v l.left

abbrev pub decreases-loop-paths : goal.decreases-loop-paths
decreases-loop-paths l = steps (segments_in l.segments) l.tree.posts (take l.tree.posts l.tree.tree.now) l.tree.posts l.v
