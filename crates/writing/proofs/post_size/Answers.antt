-- `post_size` meets its contract: nothing for the source, two numbers for any other post. Assumes nothing.
use mathlib.Core.Path.{sym, ap}
use native.Mathlib.Omega.{arith}
use lib.ListN.{length}
use Rattle.writing.proofs.Posts.{source_written}
use Rattle.writing.proofs.Writes.{post_in, post_length}
use Rattle.writing.proofs.post_size.Goals as goal

pub returns-then-post-net : goal.returns-then-post-net
returns-then-post-net c = (sym (ap (λ w. length w) (source_written _ _ _ c.if-post-net.true)), omega arith)

pub bounds-net-v : goal.bounds-net-v
bounds-net-v c = let n = c.args.net in (post_in n.sound n.rated c.args.post c.requires).0

pub bounds-net-v-2 : goal.bounds-net-v-2
bounds-net-v-2 c = let n = c.args.net in (post_in n.sound n.rated c.args.post c.requires).1

pub returns : goal.returns
returns c = let n = c.args.net in
    (omega (arith, post_length n.sound n.rated c.args.post c.requires (λ e. omega arith), c.number_size.ensures.sized.0, c.number_size-2.ensures.sized.0), omega arith)
