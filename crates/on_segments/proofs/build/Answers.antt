-- `build` meets its contract: a refusal of 1 to 7. Assumes nothing.
use Rattle.net.specs.Ready.{ratio_count_in}
use Rattle.net.proofs.Checks.{passed_on}
use Rattle.on_segments.proofs.Taking.{build_refused}
use Rattle.on_segments.proofs.build.Goals as goal

pub returns-in_err-take : goal.returns-in_err-take
returns-in_err-take c = record { built = rw (passed_on c.from_residual.ensures.1) (build_refused c.args.head c.args.own.p.now c.args.own.q.now c.args.segments.now c.take.ensures.taken.answers c.in_err-take.was (ratio_count_in c.args.own) _ _ _) }
