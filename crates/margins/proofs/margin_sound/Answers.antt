-- `margin_sound` meets its contract: a way out for 8, and one call over lists of its own. Assumes nothing.
use mathlib.Core.Path.{ap, ◌∙◌}
use Rattle.std.specs.Prelude.{Err}
use Rattle.net.specs.Ready.{ratio_count_in}
use Rattle.net.specs.Refusals.{passed_of}
use Rattle.net.proofs.Checks.{passed_on}
use Rattle.checks.proofs.Ways.{unrated}
use Rattle.margins.proofs.Margins.{says_few}
use Rattle.margins.proofs.margin_sound.Goals as goal

pub returns-in_err-net : goal.returns-in_err-net
returns-in_err-net c = record {
  answered = let n = c.args.net.lists in
      let z = unrated n.head.posts (ratio_count_in n.own) c.rated.ensures.answers (ap passed_of c.in_err-net.was) in
      says_few n.head n.own.p.now n.own.q.now n.segments.a.now n.segments.b.now n.segments.lengths.now c.args.tree c.args.post c.args.net.sound z.0 (passed_on c.from_residual.ensures.1 ∙ ap Err z.1);
}
