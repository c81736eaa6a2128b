-- `check_posts` meets its contract: each turn reads the lines of one post. Assumes nothing.
use Prim.Native.Nat.{min}
use lib.ListN.{length as size}
use Rattle.net.specs.Ready.{ratios_in}
use Rattle.checks.proofs.Ways.{SoundBelow, post_table}
use Rattle.checks.proofs.check_posts.Given as goal

abbrev pub invariant-loop-post : goal.invariant-loop-post
invariant-loop-post l = SoundBelow (post_table l.head.source (ratios_in l.own)) (min l.head.posts (size (ratios_in l.own))) l.post
