-- `put_posts` meets its contract. The loop's invariant: the first posts are put on the page. Assumes nothing.
use Rattle.net.specs.Ready.{ratios_in}
use Rattle.writing.proofs.Posts.{PutPosts}
use Rattle.writing.proofs.Page.put_posts.Given as goal

abbrev pub invariant-loop-post : goal.invariant-loop-post
invariant-loop-post l = PutPosts l.net.lists.head.source (ratios_in l.net.lists.own) l.net.lists.head.posts l.post l.initial.self l.self
