-- `posts_size` meets its contract. The loop's invariant: the first posts take `size` bytes. Assumes nothing.
use Rattle.net.specs.Ready.{ratios_in}
use Rattle.writing.proofs.Posts.{SizedPosts}
use Rattle.writing.proofs.posts_size.Given as goal

abbrev pub invariant-loop-post : goal.invariant-loop-post
invariant-loop-post l = SizedPosts l.net.lists.head.source (ratios_in l.net.lists.own) l.net.lists.head.posts l.size l.post
