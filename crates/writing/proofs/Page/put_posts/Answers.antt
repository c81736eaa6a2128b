-- `put_posts` meets its contract. The loop's invariant: the first posts are put on the page. Assumes nothing.
use native.Mathlib.Omega.{arith}
use Rattle.writing.proofs.Posts.{begin_put_posts, post_room, put_post_on, put_posts_all}
use Rattle.writing.proofs.Page.put_posts.Goals as goal

pub loop-post-init : goal.loop-post-init
loop-post-init c = begin_put_posts _ _ _ _ (omega (arith, c.requires.1))

pub put_post-requires : goal.put_post-requires
put_post-requires c = (c.requires.0, omega arith, post_room c.loop-post.invariant (omega arith) c.requires.1)

pub loop-post-preserved : goal.loop-post-preserved
loop-post-preserved c = put_post_on c.loop-post.invariant (omega arith) c.put_post.ensures

pub returns : goal.returns
returns c = put_posts_all c.loop-post.invariant (omega arith)
