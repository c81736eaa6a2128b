-- `build_sound` meets its contract: the ways out for 8, and what is left. Assumes nothing.
use mathlib.Core.Path.{ap}
use mathlib.Core.Logic.{inl, inr}
use Rattle.net.specs.Refusals.{passed_of}
use Rattle.net.proofs.Checks.{passed_on}
use Rattle.building.proofs.Ways.{leaves_short, leaves_unrated}
use Rattle.building.proofs.build_sound.Goals as goal
use Rattle.building.proofs.build_sound.Goals.{then-lightest-posts-via-then-lightest-posts, then-lightest-posts-via-else-lightest-posts+then-shortest-posts, then-lightest-posts-via-else-lightest-posts+else-shortest-posts+then-between-posts}

pub returns-then-lightest-posts : goal.returns-then-lightest-posts
returns-then-lightest-posts c = record {
  built = let n = c.args.net.lists in
      leaves_short n.head n.own.p.now n.own.q.now n.segments.a.now n.segments.b.now n.segments.lengths.now c.args.lightest.now c.args.shortest.now c.args.between.now c.args.net.sound (inl (elim c.then-lightest-posts.branch [
        | then-lightest-posts-via-then-lightest-posts w ↦ inl w.if-lightest-posts.true
        | then-lightest-posts-via-else-lightest-posts+then-shortest-posts w ↦ inr (inl w.if-shortest-posts.true)
        | then-lightest-posts-via-else-lightest-posts+else-shortest-posts+then-between-posts w ↦ inr (inr w.if-between-posts.true)
      ])) c.refuse.ensures.refused;
}

pub returns-in_err-rated : goal.returns-in_err-rated
returns-in_err-rated c = record {
  built = let n = c.args.net.lists in
      leaves_unrated n.head n.own.p.now n.own.q.now n.segments.a.now n.segments.b.now n.segments.lengths.now c.args.lightest.now c.args.shortest.now c.args.between.now c.args.net.sound
      c.rated.ensures.answers (ap passed_of c.in_err-rated.was) (passed_on c.from_residual.ensures.1);
}
