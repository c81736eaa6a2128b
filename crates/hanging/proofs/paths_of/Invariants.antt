-- `hanging::paths_of` meets its contract: at the head of the loop the paths of the posts passed are known (`Learning`).
use lib.ListN.{take}
use Rattle.net.specs.Ready.{segments_in}
use Rattle.hanging.proofs.Paths.{Learning}
use Rattle.hanging.proofs.paths_of.Given as goal

abbrev pub invariant-loop-v : goal.invariant-loop-v
invariant-loop-v l = Learning (segments_in l.tree.segments) l.tree.posts (take l.tree.posts l.tree.tree.now) l.initial.paths l.paths l.v
