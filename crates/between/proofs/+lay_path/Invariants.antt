-- `lay_path` calls itself for the parent, whose depth in the shortest tree is less.
use Rattle.std.proofs.Common.{length}
use Rattle.between.specs.Laying.{depth}
use Rattle.between.proofs.+lay_path.Given as goal

abbrev pub decreases-lay_path : goal.decreases-lay_path
decreases-lay_path l = depth l.on.now.shortest.now l.on.now.up.now (length l.on.now.up.now) l.v
