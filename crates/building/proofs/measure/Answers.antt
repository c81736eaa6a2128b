-- `measure` meets its contract: two measures of a tree that has an entry for each post. Assumes nothing.
use mathlib.Core.Path.{refl}
use native.Mathlib.Omega.{arith}
use Rattle.net.proofs.Ready.{ready_few, ready_posts}
use Rattle.trees.proofs.Ready.{ready_short}
use Rattle.building.proofs.Ways.{listed_at, measured_at}
use Rattle.building.proofs.measure.Goals as goal

pub whole_of-length-requires : goal.whole_of-length-requires
whole_of-length-requires c =
    let r = c.args.net.sound in
    record { posts_le_most_posts = (omega (arith, ready_posts r), omega (arith, c.requires.one_each), omega (arith, ready_few r, r.lengths_level)); short = ready_short r }

pub invariant_of-radius_of : goal.invariant_of-radius_of
invariant_of-radius_of c = record { listed = listed_at c.args.net.sound refl c.requires }

pub returns : goal.returns
returns c = measured_at c.args.net.sound refl _ c.requires.one_each c.whole_of-length.ensures.measured c.radius_of-radius.ensures.measured
