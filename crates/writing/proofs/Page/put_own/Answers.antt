-- `put_own` meets its contract: nothing in the first form. Assumes nothing.
use native.Mathlib.Omega.{arith}
use Rattle.net.specs.Ready.{ratios_in}
use Rattle.writing.proofs.Posts.{own_length, own_none_put, own_put}
use Rattle.writing.proofs.Page.put_own.Goals as goal

pub put_posts-requires : goal.put_posts-requires
put_posts-requires c = let n = c.args.net in (c.in-Second.is, omega (arith, own_length n.lists.head (ratios_in n.lists.own) c.in-Second.is n.rated))

pub returns-in-First : goal.returns-in-First
returns-in-First c = let n = c.args.net in own_none_put n.lists.head (ratios_in n.lists.own) c.in-First.is c.requires

pub returns-in-Second : goal.returns-in-Second
returns-in-Second c = let n = c.args.net in own_put n.lists.head (ratios_in n.lists.own) c.in-Second.is n.rated c.put_posts.ensures
