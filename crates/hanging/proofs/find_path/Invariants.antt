-- `hanging::find_path` meets its contract: at the head of the loop what was climbed and the path of the post reached make the path (`Finding`).
use lib.ListN.{take}
use Rattle.net.specs.Ready.{segments_in}
use Rattle.hanging.proofs.Paths.{steps, Finding}
use Rattle.hanging.proofs.find_path.Given as goal

abbrev pub invariant-loop-v : goal.invariant-loop-v
invariant-loop-v l = Finding (segments_in l.segments) l.tree.posts (take l.tree.posts l.tree.tree.now) l.post l.v l.total

abbrev pub decreases-loop-v : goal.decreases-loop-v
decreases-loop-v l = steps (segments_in l.segments) l.tree.posts (take l.tree.posts l.tree.tree.now) l.tree.posts l.v
