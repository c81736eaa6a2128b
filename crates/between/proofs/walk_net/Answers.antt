-- `walk_net` meets its contract: the children are linked, the start is set, and one call walks the source. Assumes nothing.
use mathlib.Core.Path.{refl, sym, ap, ◌∙◌}
use Prim.Native.Nat.{ℕ}
use lib.ListN.{replicate, length-take, length-set, length-replicate}
use Rattle.net.specs.Words.{no_segment}
use Rattle.between.proofs.Starting.{start_asks, start_ends}
use native.Mathlib.Omega.{arith}
use Rattle.between.proofs.walk_net.Goals as goal

pub slice_bounds-d-end : goal.slice_bounds-d-end
slice_bounds-d-end c = simp (length-set, length-replicate) c.requires.0.walkable.few_posts

pub slice_bounds-walk_from-end : goal.slice_bounds-walk_from-end
slice_bounds-walk_from-end c = simp (length-take, length-set, length-replicate) (omega arith)

pub walk_from-requires : goal.walk_from-requires
walk_from-requires c = let p = c.requires in
    let w = p.0.walkable in
    record {
      given = _;
      turned = start_asks w _ p.0.tables w.few_posts refl (c.fill.ensures.after (λ _ e. e) ∙ ap (λ (k : ℕ). replicate k no_segment) p.1) (sym
          c.link_children.auto.first) (omega arith) w.few_posts c.link_children.ensures;
    }

pub returns : goal.returns
returns c = λ p q w t.
    let ee = c.fill.ensures.after (λ _ e. e) ∙ ap (λ (k : ℕ). replicate k no_segment)
    c.requires.1 in
    start_ends w _ t w.few_posts refl ee
    (c.walk_from.ensures _ (start_asks w _ t w.few_posts refl ee (sym c.link_children.auto.first) (omega arith) w.few_posts
    c.link_children.ensures))
