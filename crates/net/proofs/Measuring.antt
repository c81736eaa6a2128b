-- What a tree's measures come to: its whole length is that of the set of the segments by which its posts hang (`tree_length`), since no two posts hang by
-- one segment (`entries_differ`), and 0 where the source is the only post (`one_post`); its radius is at least the length of every path, and of one
-- (`radius_most`, `radius_one`). Rests on Climbs and Used.
use mathlib.Core.Path.{◌≡◌, refl, sym, ap, ◌∙◌}
use mathlib.Core.Bool.{Bool, ◌&&◌}
use mathlib.Core.List.{List}
use Prim.Native.Nat.{ℕ, ◌≤◌, ◌<◌}
use native.Mathlib.Omega.{arith}
use lib.ListN.{length}
use Rattle.net.specs.Words.{no_segment, counted}
use Rattle.net.specs.Net.{length_at, Leads, set_length}
use Rattle.net.specs.Trees.{entry, hangs, used_by, parent, Climb, arrived, up, IsTree, the_path_in, radius, whole}
use Rattle.net.specs.declared.Segment.{Segment}
use Rattle.net.proofs.Words.{and_i, counted_mono, largest_most, largest_one}
use Rattle.net.proofs.Sums.{sum_le}
use Rattle.net.proofs.Routes.{leads_back, far_end}
use Rattle.net.proofs.Least.{Inside}
use Rattle.net.proofs.Climbs.{climb_path}
use Rattle.net.proofs.Used.{hangs_entry, entry_used, used_cost, list_cost}

module _ (segs : List Segment) (ok : ℕ → Bool) (n s : ℕ) (inside : Inside segs ok n) (few : length segs ≤ no_segment) (t : List ℕ) {path : ℕ → ℕ} (tree : IsTree segs ok n s t path) where
  source_hangs_not : {v : ℕ} → (entry t v ≡ no_segment → ⊥) → v ≡ s → ⊥
  source_hangs_not f e = f (ap (entry t) e ∙ tree.source_entry)

  -- no two posts are each other's parents: neither would climb to s
  no_round : {w v x long : ℕ} → w ≡ v → entry t v ≡ entry t x → (entry t v ≡ no_segment → ⊥) → Leads segs (entry t v) x v → Climb segs ok t s w long → ⊥
  no_round q e f l (arrived k) = source_hangs_not f (sym q ∙ k)
  no_round {w} {v} {x} q e f l (up {u = u} ne l' o c) =
      let k : u ≡ x = sym (leads_back segs l').across ∙ ap (parent segs t) q ∙ (leads_back segs l).across in
      no_round k (sym e) (λ z. f (e ∙ z)) (rw e at (leads_back segs l)) c

  -- the segment of a climb's first step
  first_leads : {v long : ℕ} → (entry t v ≡ no_segment → ⊥) → Climb segs ok t s v long → Leads segs (entry t v) (parent segs t v) v
  first_leads f (arrived k) = absurd (source_hangs_not f k)
  first_leads f (up ne l o c) = rw (leads_back segs l).across l

  entry_leads : (v : ℕ) → v < n → (entry t v ≡ no_segment → ⊥) → Leads segs (entry t v) (parent segs t v) v
  entry_leads v h f = first_leads f (tree.reaches v h)

  -- two different posts hang by different segments
  pub entries_differ : (v x : ℕ) → v < n → x < n → (v ≡ x → ⊥) → (entry t v ≡ no_segment → ⊥) → entry t v ≡ entry t x → ⊥
  entries_differ v x hv hx ne f e =
      let a = entry_leads v hv f in
      let b = rw (← e) at (entry_leads x hx (λ z. f (e ∙ z))) in
      let k : parent segs t v ≡ x = far_end segs a (leads_back segs b).ends (λ z. ne (sym z)) in
      no_round refl e f (rw k at a) (tree.reaches v hv)

  -- ITS LENGTH is that of the segments by which its posts hang
  pub tree_length : whole segs n t ≡ set_length segs (used_by n t)
  unfolding whole
  tree_length =
      omega (
        arith,
        used_cost segs n t few,
        list_cost segs n t (used_by n t) (λ v h e. (entry_leads v h (hangs_entry t v e)).is_segment)
            (λ v x vx h e k. absurd (entries_differ v x (omega arith) h (λ z. omega arith) (hangs_entry t v e) k)),
        sum_le n (λ v. counted (hangs t v) (length_at segs (entry t v))) (λ v. counted (hangs t v && used_by n t (entry t v)) (length_at segs (entry t v)))
            (λ v h. counted_mono (hangs t v) (hangs t v && used_by n t (entry t v)) (length_at segs (entry t v)) (λ e. and_i e (entry_used n t v (entry t v) h refl))),
      )

  -- and 0 where the source is the only post
  pub one_post : s < n → n ≡ 1 → whole segs n t ≡ 0
  unfolding whole
  one_post below e =
      let z : s ≡ 0 = omega arith in
      let f : entry t 0 ≡ no_segment = ap (entry t) (sym z) ∙ tree.source_entry in
      rw (e, f)

  -- ITS RADIUS: no path is longer
  pub radius_most : (v long : ℕ) → v < n → Climb segs ok t s v long → long ≤ radius segs n t
  unfolding radius
  radius_most v long h c = omega (arith, largest_most (the_path_in segs n t) n v h, climb_path segs ok t s n inside few tree.source_entry h c)

  -- and one is as long
  pub radius_one : s < n → (v : ℕ) × (v < n) × Climb segs ok t s v (radius segs n t)
  unfolding radius
  radius_one below =
      let z = largest_one (the_path_in segs n t) n (omega arith) in
      let c = tree.reaches z.0 z.1 in
      (z.0, z.1, rw (sym (climb_path segs ok t s n inside few tree.source_entry z.1 c) ∙ z.2) at c)
