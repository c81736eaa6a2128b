-- `other_at` meets its contract: the source is not looked at, elsewhere the two numbers of the post. Assumes nothing.
use Rattle.net.specs.Ready.{ratios_in}
use Rattle.moves.proofs.Tests.{source_is, post_is}
use Rattle.moves.proofs.other_at.Goals as goal

pub returns-then-post-head : goal.returns-then-post-head
returns-then-post-head c = source_is c.args.head (ratios_in c.args.own) c.args.post c.if-post-head.true

pub returns : goal.returns
returns c = post_is c.args.head c.args.own.p.now c.args.own.q.now c.args.post c.if-post-head.false c.requires.0 c.requires.1 c.other_ratio.ensures
