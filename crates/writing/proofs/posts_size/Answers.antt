-- `posts_size` meets its contract. The loop's invariant: the first posts take `size` bytes. Assumes nothing.
use native.Mathlib.Omega.{arith}
use Rattle.net.proofs.Ready.{ready_posts}
use Rattle.writing.proofs.Posts.{begin_posts, next_post, all_posts}
use Rattle.writing.proofs.posts_size.Goals as goal

pub loop-post-init : goal.loop-post-init
loop-post-init c = begin_posts _ _ _

pub overflow_add-size : goal.overflow_add-size
overflow_add-size c = omega (arith, c.loop-post.invariant.small, ready_posts c.args.net.sound)

pub loop-post-preserved : goal.loop-post-preserved
loop-post-preserved c = next_post c.loop-post.invariant (omega arith) c.post_size-size.ensures.0 c.post_size-size.ensures.1

pub returns : goal.returns
returns c = let a = all_posts c.loop-post.invariant (omega arith) in (a.0, omega (arith, a.1, ready_posts c.args.net.sound))
