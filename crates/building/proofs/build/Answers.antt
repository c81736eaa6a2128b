-- `build` meets its contract: a way out for 1 to 7, and what is left of the net cut to what its lists stand for. Assumes nothing.
use mathlib.Core.Path.{ap}
use Rattle.net.specs.Refusals.{passed_of}
use Rattle.net.proofs.Checks.{passed_on}
use Rattle.building.proofs.Ways.{leaves_faulty}
use Rattle.building.proofs.build.Goals as goal

pub returns-in_err-sound : goal.returns-in_err-sound
returns-in_err-sound c = record {
  built = let n = c.args.net in
      rw (passed_on c.from_residual.ensures.1)
      (leaves_faulty n.head n.own.p.now n.own.q.now n.segments.a.now n.segments.b.now n.segments.lengths.now c.args.lightest.now c.args.shortest.now c.args.between.now c.sound.ensures.answers (ap passed_of c.in_err-sound.was));
}
