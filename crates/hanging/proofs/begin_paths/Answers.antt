-- `hanging::begin_paths` meets its contract: the list is overwritten from the front by what stands at first for each post.
use mathlib.Core.Path.{◌≡◌, sym, ◌∙◌}
use Prim.Native.Nat.{◌<◌}
use native.Mathlib.Omega.{arith}
use lib.ListN.{length, get_or}
use borrow.Author.Tests.{eq-eqb, ne_eqb}
use Rattle.std.proofs.lemmas.List.{get_or-map}
use Rattle.net.specs.Words.{no_segment}
use Rattle.net.proofs.Blend.{over_more}
use Rattle.hanging.specs.Paths.{the_first_path}
use Rattle.hanging.proofs.begin_paths.Goals as goal
use Rattle.hanging.proofs.begin_paths.Goals.{then-tree-v, else-tree-v}

pub loop-v-preserved : goal.loop-v-preserved
loop-v-preserved c =
    let tree = c.args.tree.now in
    let v = c.loop-v.v in
    let h : v < length tree = omega (arith, c.loop-v-test.true, c.requires) in
    let first : c.if-tree-v.path ≡ the_first_path (get_or tree v 0) = elim c.if-tree-v.branch [
      | then-tree-v w ↦ rw (w.path-is, eq-eqb (get_or tree v 0) no_segment w.if-tree-v.true)
      | else-tree-v w ↦ rw (w.path-is, ne_eqb (get_or tree v 0) no_segment w.if-tree-v.false)
    ] in
    over_more c.loop-v.invariant c.loop-v-test.true _ (first ∙ sym (get_or-map the_first_path tree v 0 0 h))
