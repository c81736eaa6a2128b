-- `hanging::begin_paths` meets its contract: the list is overwritten from the front by what stands at first for each post.
use mathlib.Core.List.{map}
use Rattle.net.proofs.Blend.{Over}
use Rattle.hanging.specs.Paths.{the_first_path}
use Rattle.hanging.proofs.begin_paths.Given as goal

abbrev pub invariant-loop-v : goal.invariant-loop-v
invariant-loop-v l = Over l.initial.paths (map the_first_path l.tree) l.paths l.v
