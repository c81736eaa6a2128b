-- `put_post` meets its contract: nothing of the source, two numbers of any other post. Assumes nothing.
use native.Mathlib.Omega.{arith}
use Rattle.writing.proofs.Posts.{none_put, two_put}
use Rattle.writing.proofs.Writes.{post_in, post_length, post_small}
use Rattle.writing.proofs.Page.put_post.Goals as goal

pub returns-then-post-net : goal.returns-then-post-net
returns-then-post-net c = none_put _ _ _ c.if-post-net.true (omega (arith, c.requires.2))

pub bounds-net-v : goal.bounds-net-v
bounds-net-v c = let n = c.args.net in (post_in n.sound n.rated c.args.post c.requires.1).0

pub put_number-requires : goal.put_number-requires
put_number-requires c = let n = c.args.net in
    ((post_small n.sound n.rated c.args.post c.requires.1 c.requires.0 (λ e. omega arith)).0, omega (arith, c.requires.2, post_length n.sound n.rated c.args.post c.requires.1 (λ e. omega arith)))

pub bounds-net-v-2 : goal.bounds-net-v-2
bounds-net-v-2 c = let n = c.args.net in (post_in n.sound n.rated c.args.post c.requires.1).1

pub put_number-requires-2 : goal.put_number-requires-2
put_number-requires-2 c = let n = c.args.net in
    ((post_small n.sound n.rated c.args.post c.requires.1 c.requires.0 (λ e. omega arith)).1, omega (arith, c.requires.2, post_length n.sound n.rated c.args.post c.requires.1 (λ e. omega arith)))

pub returns : goal.returns
returns c =
    let n = c.args.net in
    let b = post_in n.sound n.rated c.args.post c.requires.1 in
    two_put n.lists.head.source n.lists.own.p.now n.lists.own.q.now c.args.post b.0 b.1 (λ e. omega arith) c.put_number.ensures c.put_number-2.ensures
