-- `check_post` meets its contract: at the source nothing is read, elsewhere 3 of the two numbers. Assumes nothing.
use Rattle.net.specs.Ready.{ratios_in}
use Rattle.checks.proofs.Ways.{source_says, post_says}
use Rattle.checks.proofs.check_post.Goals as goal

pub returns-then-post-source : goal.returns-then-post-source
returns-then-post-source c = source_says _ _ (ratios_in c.args.own) c.if-post-source.true

pub returns : goal.returns
returns c = let z = c.args in post_says z.post z.source z.own.p.now z.own.q.now c.if-post-source.false c.requires.0 c.requires.1 c.check_ratio.ensures.checked
