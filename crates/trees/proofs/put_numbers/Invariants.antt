-- `put_numbers` meets its contract: the list is overwritten from the front by the posts' numbers. Assumes nothing.
use Rattle.net.proofs.Blend.{Over}
use Rattle.trees.specs.Ratios.{numbers_for}
use Rattle.trees.proofs.put_numbers.Given as goal

abbrev pub invariant-loop-v : goal.invariant-loop-v
invariant-loop-v l = Over l.initial.list (numbers_for l.head l.house l.own) l.list l.v
