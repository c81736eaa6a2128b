-- THE WALK ALONG THE SEGMENTS THAT BELONG leaves the lightest tree (`hung_all`). While it goes on, every reached post has its entry of that tree, and its parent is
-- reached too (`Hanging`): a segment that belongs is the entry of one of its ends (`exactly_belonging`), and of u it can't be, where the other end isn't reached
-- (`new_entry`). Rests on net's laws of the lightest tree and on `Along`.
use mathlib.Core.Path.{◌≡◌, refl, sym, ap, ◌∙◌}
use mathlib.Core.Bool.{Bool, true, false}
use mathlib.Core.List.{List}
use mathlib.Core.Logic.{inl, inr, ⊎_elim}
use Prim.Native.Nat.{ℕ, ◌+◌, ◌<◌, ◌≤◌}
use native.Mathlib.Omega.{arith}
use lib.ListN.{length}
use lib.Seq.{ext_get_or}
use Rattle.net.specs.Words.{no_segment}
use Rattle.net.specs.Net.{every, segments_of, nth_segment, Leads, Route, here, by, Chain}
use Rattle.net.specs.Trees.{none_yet, belonging, belongs_at, lightest, entry, parent}
use Rattle.net.specs.declared.Head.{Head}
use Rattle.net.specs.Ready.{Ready}
use Rattle.net.proofs.Words.{clash, true_or_false}
use Rattle.net.proofs.Segments.{get_d_any}
use Rattle.net.proofs.Routes.{leads_back, no_third, leads_ends, stay, join, along}
use Rattle.net.proofs.Least.{Inside, leads_to}
use Rattle.net.proofs.Belongs.{belongs_at_says, belongs_at_chain}
use Rattle.net.proofs.Lightest.{length_lightest, light_source, light_says, light_route, exactly_belonging}
use Rattle.net.proofs.Ready.{ready_count, ready_few, ready_posts, ready_source, ready_inside}
use Rattle.hanging.specs.Lists.{flag, note, Ends, Sides}
use Rattle.hanging.proofs.Lists.{same?, last?}
use Rattle.shortest.proofs.Sides.{joins_leads, leads_joins}
use Rattle.trees.specs.Along.{Reaching, Begun, Grows, Crossed}
use Rattle.trees.proofs.Ready.{some_ends, ready_ends}

-- what is asked of n posts, a source s and three lists of segments
pub record Held (n s : ℕ) (a b lengths : List ℕ) : Type 0 where
  pub ends : Ends n a b every
  pub lengths_level : length lengths ≡ length a
  pub level : length (segments_of a b lengths) ≡ length a
  pub inside : Inside (segments_of a b lengths) every n
  pub small : n ≤ none_yet
  pub few : length (segments_of a b lengths) ≤ no_segment
  pub below : s < n

pub held : {head : Head} {p q a b lengths : List ℕ} {n s : ℕ} → Ready head p q a b lengths → n ≡ head.posts → s ≡ head.source → Held n s a b lengths
held r e f =
    rw (e, f)
    (record {
      ends = ready_ends r;
      lengths_level = r.lengths_level;
      level = ready_count r;
      inside = ready_inside r;
      small = omega (arith, ready_posts r);
      few = omega (arith, ready_count r, ready_few r);
      below = ready_source r;
    })

-- their lightest tree
abbrev pub light : ℕ → ℕ → List ℕ → List ℕ → List ℕ → List ℕ
light n s a b lengths = lightest (segments_of a b lengths) every n s

-- the first k of the queue are done
pub record Hanging (n s : ℕ) (a b lengths : List ℕ) (marks : List Bool) (k count : ℕ) (R : List Bool) (Q T : List ℕ) : Type 0 where
  pub up_to : k ≤ count
  pub reaching : Reaching n count R Q T
  pub source_in : flag R s ≡ true
  pub joined : (v : ℕ) → v < n → flag R v ≡ true → Chain (segments_of a b lengths) every s v
  pub hung : (v : ℕ) → v < n → flag R v ≡ true → note T v ≡ entry (light n s a b lengths) v
  pub above : (v : ℕ) → v < n → flag R v ≡ true → (entry (light n s a b lengths) v ≡ no_segment → ⊥)
      → flag R (parent (segments_of a b lengths) (light n s a b lengths) v) ≡ true
  pub done : (j : ℕ) → j < k → Crossed a b marks (note Q j) R

module _ {n s : ℕ} {a b lengths : List ℕ} (r : Held n s a b lengths) {marks : List Bool} (m : marks ≡ belonging (segments_of a b lengths) every n) where
  sides : length marks ≡ length a → Sides n a b lengths marks
  sides e = record { ends = some_ends r.ends; weights_many = r.lengths_level; present_many = e }

  marked_belongs : (i : ℕ) → flag marks i ≡ true → belongs_at (segments_of a b lengths) every n i ≡ true
  marked_belongs i t = rw m at t

  source_bare : entry (light n s a b lengths) s ≡ no_segment
  source_bare = light_source (segments_of a b lengths) every n r.inside r.small r.few s r.below

  -- AT FIRST
  pub hanging_none : {R : List Bool} {Q T : List ℕ} → Begun n s R Q T → Hanging n s a b lengths marks 0 1 R Q T
  hanging_none w =
      record {
        up_to = omega arith;
        reaching = w.reaching;
        source_in = w.source_in;
        joined = λ v h t. rw (w.no_other v t) (stay (segments_of a b lengths));
        hung = λ v h t. w.none_hung v h ∙ sym (ap (entry (light n s a b lengths)) (w.no_other v t) ∙ source_bare);
        above = λ v h t ne. absurd (ne (ap (entry (light n s a b lengths)) (w.no_other v t) ∙ source_bare));
        done = λ j h. absurd (omega arith);
      }

  module _ {k count : ℕ} {R : List Bool} {Q T : List ℕ} (z : Hanging n s a b lengths marks k count R Q T) (long : length marks ≡ length a) where
    -- a chain to one end of a segment is one to its first end
    first_end : {i u v : ℕ} → Leads (segments_of a b lengths) i u v → Chain (segments_of a b lengths) every s u → Chain (segments_of a b lengths) every s (nth_segment (segments_of a b lengths) i).a
    first_end {i} {u} {v} l c =
        elim (leads_ends (segments_of a b lengths) l) [
          | inl e ↦ rw e.0 at c
          | inr e ↦ rw e.1 at (join (segments_of a b lengths) c (along (segments_of a b lengths) l refl))
        ]

    -- a marked segment that leads from a reached post to one that isn't is the entry of the latter
    new_entry : {i u v : ℕ} → u < n → flag R u ≡ true → flag R v ≡ false → flag marks i ≡ true → Leads (segments_of a b lengths) i u v → entry (light n s a b lengths) v ≡ i
    new_entry {i} {u} {v} h t f o l =
        let segs = segments_of a b lengths in
        let says = belongs_at_says segs every n r.inside r.small r.few i (marked_belongs i o) in
        let x = (exactly_belonging segs every n r.inside r.small r.few s r.below).each_hangs i l.is_segment says (first_end l (z.joined u h t)) in
        ⊎_elim (λ e. ap (entry (light n s a b lengths)) (sym e) ∙ x.2)
        (λ ne. ⊎_elim (λ e. absurd (up_again (ap (entry (light n s a b lengths)) (sym e) ∙ x.2))) (λ nu. absurd (third x.0 x.1 x.2 nu ne)) (same? x.0 u))
        (same? x.0 v)
      where
        is_one : (e : ℕ) → e ≡ i → e ≡ no_segment → ⊥
        is_one e p q = omega (arith, l.is_segment, r.few)

        up_again : entry (light n s a b lengths) u ≡ i → ⊥
        up_again e =
            let p = z.above u h t (is_one (entry (light n s a b lengths) u) e) in
            clash (rw (e, l.across) at p) f

        third : (x : ℕ) → x < n → entry (light n s a b lengths) x ≡ i → (x ≡ u → ⊥) → (x ≡ v → ⊥) → ⊥
        third x k e nu nv =
            let y = light_says (segments_of a b lengths) every n r.inside r.small r.few s r.below x k (is_one (entry (light n s a b lengths) x) e) in
            clash (rw e at (leads_back (segments_of a b lengths) y.leads).ends) (no_third (segments_of a b lengths) x l nu nv)

    -- ONE MORE of the queue is done: u
    module _ {u c' : ℕ} {R' : List Bool} {Q' T' : List ℕ} (less : k < count) (u-is : u ≡ note Q k) (g : Grows a b marks u count R Q T c' R' Q' T') where
      u_in : u < n
      u_in = rw u-is (z.reaching.queued k less).0

      u_reached : flag R u ≡ true
      u_reached = rw u-is (z.reaching.queued k less).1

      module _ (v : ℕ) (f : flag R v ≡ false) (t : flag R' v ≡ true) where
        new_leads : Leads (segments_of a b lengths) (g.new v f t).0 u v
        new_leads = let o = g.new v f t in joins_leads (sides long) o.1 o.3

        new_hung : entry (light n s a b lengths) v ≡ (g.new v f t).0
        new_hung = new_entry u_in u_reached f (g.new v f t).2 new_leads

        new_above : flag R' (parent (segments_of a b lengths) (light n s a b lengths) v) ≡ true
        new_above = rw (new_hung, (leads_back (segments_of a b lengths) new_leads).across) (g.still u u_reached)

      pub hanging_more : Reaching n c' R' Q' T' → Crossed a b marks u R' → Hanging n s a b lengths marks (k + 1) c' R' Q' T'
      hanging_more y x =
          record {
            up_to = omega (arith, g.up_to);
            reaching = y;
            source_in = g.still s z.source_in;
            joined = λ v h t.
                ⊎_elim (λ o. z.joined v h o) (λ f. join (segments_of a b lengths) (z.joined u u_in u_reached) (along (segments_of a b lengths) (new_leads v f t) refl)) (true_or_false (flag R v));
            hung = λ v h t. ⊎_elim (λ o. g.hung v o ∙ z.hung v h o) (λ f. (g.new v f t).4 ∙ sym (new_hung v f t)) (true_or_false (flag R v));
            above = λ v h t ne. ⊎_elim (λ o. g.still _ (z.above v h o ne)) (λ f. new_above v f t) (true_or_false (flag R v));
            done = λ j h. ⊎_elim (λ e. let q : note Q' j ≡ u = ap (note Q') e ∙ g.in_place k less ∙ sym u-is in rw q x) (λ l. rw (g.in_place j (omega (arith, z.up_to))) (wider (z.done j l))) (last? j k h);
          }
        where
          wider : {j : ℕ} → Crossed a b marks j R → Crossed a b marks j R'
          wider d = record { all = λ i v h o l. g.still v (d.all i v h o l) }

    -- ALL of the queue is done: from a reached post the segments that belong lead to reached posts only
    module _ (all : count ≤ k) where
      closed : {x v : ℕ} {is : List ℕ} → Route (segments_of a b lengths) (belongs_at (segments_of a b lengths) every n) x is v → x < n → flag R x ≡ true → flag R v ≡ true
      closed here h t = t
      closed (by {u = u} {v = y} {i = i} l o rest) h t =
          let j = z.reaching.each u h t in
          let q = (z.done j.0 (omega (arith, j.1))).all i y (omega (arith, l.is_segment, r.level)) (rw m o) (rw j.2 (leads_joins (sides long) l)) in
          closed rest (leads_to r.inside l refl) q

      left_bare : (v : ℕ) → v < n → flag R v ≡ false → entry (light n s a b lengths) v ≡ no_segment
      left_bare v h f =
          ⊎_elim (λ e. e)
          (λ ne.
          let c = belongs_at_chain (segments_of a b lengths) every n r.inside r.small r.few (light_route (segments_of a b lengths) every n r.inside r.small r.few s r.below v h ne) in
          absurd (clash (closed c.route r.below z.source_in) f))
          (same? (entry (light n s a b lengths) v) no_segment)

      pub hung_all : T ≡ light n s a b lengths
      hung_all =
          let long = length_lightest (segments_of a b lengths) every n r.inside r.small r.few s r.below in
          ext_get_or no_segment T (light n s a b lengths) (z.reaching.entries ∙ sym long)
          (λ v h.
          let p : v < n = omega (arith, z.reaching.entries) in
          get_d_any T v no_segment 0 h ∙ ⊎_elim (λ t. z.hung v p t) (λ f. z.reaching.bare v p f ∙ sym (left_bare v p f)) (true_or_false (flag R v)))
