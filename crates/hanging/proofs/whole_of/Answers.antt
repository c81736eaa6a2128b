-- `hanging::whole_of` meets its contract: at the head of the loop the lengths of the entries passed are added up (`Adding`).
use mathlib.Core.Path.{◌≡◌, ◌∙◌}
use native.Mathlib.Omega.{arith}
use lib.Seq.{length-take-le}
use Rattle.net.proofs.Segments.{get_d_any}
use Rattle.hanging.proofs.Measures.{adding_step, adding_all}
use Rattle.hanging.proofs.whole_of.Goals as goal

pub loop-e-preserved : goal.loop-e-preserved
loop-e-preserved c = (
  omega arith,
  adding_step c.requires.short c.loop-e.invariant.1 (c.from.ensures ∙ get_d_any _ _ 0 65535 c.loop-e-test.true) c.at-total.ensures.read,
)

pub returns : goal.returns
returns c = record {
  measured = let e : c.loop-e.e-index ≡ c.args.posts = omega (arith, length-take-le c.args.posts c.args.tree.now c.requires.posts_le_most_posts.1) in
      let r = c.loop-e.invariant.1 in
      adding_all (omega arith) (rw e at r);
}
