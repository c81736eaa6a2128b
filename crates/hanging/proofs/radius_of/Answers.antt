-- `hanging::radius_of` meets its contract: the largest of the paths is the radius (`lent_radius`).
use lib.ListN.{replicate}
use Rattle.hanging.proofs.Paths.{lent_radius}
use Rattle.hanging.proofs.radius_of.Goals as goal

pub returns : goal.returns
returns c = record { measured = lent_radius _ _ _ (replicate 256 0) c.args.tree.listed.few_posts c.paths_of.auto.paths c.paths_of.ensures.measured c.largest_of.ensures }
