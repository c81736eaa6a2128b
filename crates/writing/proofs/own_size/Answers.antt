-- `own_size` meets its contract: nothing in the first form. Assumes nothing.
use mathlib.Core.Path.{sym, ap, ◌∙◌}
use mathlib.Core.List.{List}
use Prim.Native.Nat.{ℕ}
use native.Mathlib.Omega.{arith}
use lib.ListN.{length}
use Rattle.net.specs.Ready.{ratios_in}
use Rattle.writing.proofs.Posts.{own_first_is, own_second_is}
use Rattle.writing.proofs.own_size.Goals as goal

pub returns-in-First : goal.returns-in-First
returns-in-First c = (sym (ap (λ (w : List ℕ). length w) (own_first_is c.args.net.lists.head (ratios_in c.args.net.lists.own) c.in-First.is)), omega arith)

pub returns-in-Second : goal.returns-in-Second
returns-in-Second c = (c.posts_size.ensures.0 ∙ sym (ap (λ (w : List ℕ). length w) (own_second_is c.args.net.lists.head (ratios_in c.args.net.lists.own) c.in-Second.is c.args.net.rated)), c.posts_size.ensures.1)
