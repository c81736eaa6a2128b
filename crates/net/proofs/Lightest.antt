-- The lightest tree: each post with a route hangs, by a segment that belongs and one step nearer to the source (`light_says`, `light_hangs`), and climbs to it
-- (`light_climbs`); its entries are exactly the segments that belong (`exactly_belonging`), a spanning tree (`lightest_spans`) no longer than any segments
-- that span the net (`lightest_least`). Rests on Belongs, Exchange and Hung; a route is asked only of the posts in question.
use mathlib.Core.Path.{◌≡◌, refl, sym, ap, ◌∙◌}
use mathlib.Core.Bool.{Bool, true, ◌&&◌}
use mathlib.Core.List.{List}
use Prim.Native.Nat.{ℕ, zero, suc, ◌+◌, ◌≤◌, ◌<◌}
use native.Mathlib.Omega.{arith}
use native.Mathlib.Decide.{ℕ_discrete}
use lib.ListN.{length}
use Rattle.net.specs.Words.{no_segment, counted}
use Rattle.net.proofs.Words.{and_i, clash, counted_mono}
use Rattle.net.proofs.Sums.{sum_le}
use Rattle.net.specs.Net.{nth_segment, length_at, Chain, SpanningTree, set_length}
use Rattle.net.proofs.Routes.{leads_back, no_third, stay, join, along, back, ends_lead, far_end, without, without_keeps, widen}
use Rattle.net.proofs.Least.{Inside, inside_part, leads_from, leads_to, least_is, least_most, fewest_few}
use Rattle.net.specs.Trees.{none_yet, at, one, HangsBy, fewest, hung_from, belongs, belongs_at, lightest, ExactlyBelonging, entry, hangs, parent, Climb, arrived, up, IsTree, whole, used_by}
use Rattle.net.proofs.Hung.{length_hung, hung_says, hung_hangs, hung_source, least_zero}
use Rattle.net.proofs.Belongs.{Spans, belongs_says, belongs_is, no_ring, belongs_at_law, belongs_at_says, belongs_at_chain}
use Rattle.net.proofs.Exchange.{belongs_least}
use Rattle.net.proofs.Climbs.{climb_chain}
use Rattle.net.proofs.Used.{hangs_entry, entry_used, used_entry, used_cost, list_cost}
use Rattle.net.specs.declared.Segment.{Segment}

-- TREES
module _ (segs : List Segment) (ok : ℕ → Bool) (n : ℕ) (inside : Inside segs ok n) (few : length segs ≤ no_segment) (s : ℕ) (t : List ℕ) where
  climb_used : {v long : ℕ} → v < n → Climb segs ok t s v long → Chain segs (used_by n t) s v
  climb_used h (arrived e) = rw e (stay segs)
  climb_used {v} h (up ne l o c) = join segs (climb_used (leads_from inside l o) c) (along segs l (entry_used n t v (entry t v) h refl))

  climb_there : {v long : ℕ} → entry t s ≡ no_segment → (entry t v ≡ no_segment → ⊥) → Climb segs ok t s v long → ok (entry t v) ≡ true
  climb_there f ne (arrived e) = absurd (ne (ap (entry t) e ∙ f))
  climb_there f ne (up k l o c) = o

  -- the segments by which the posts of a tree hang join the ends of each segment that is there
  pub tree_spans : {path : ℕ → ℕ} → IsTree segs ok n s t path → Spans segs ok (used_by n t)
  tree_spans z =
      record {
        made_of = λ i h e.
            let u = used_entry n t i e in
            rw u.2 at (climb_there z.source_entry (λ k. omega (arith, u.2)) (z.reaches u.0 u.1));
        joins_ends = λ i u v l o.
            let hu = leads_from inside l o in
            let hv = leads_to inside l o in
            join segs (back segs (climb_used hu (z.reaches u hu))) (climb_used hv (z.reaches v hv));
      }

-- how many segments of the lightest tree are on the path of v
abbrev pub depth : List Segment → (ℕ → Bool) → ℕ → ℕ → ℕ → ℕ
depth segs ok n s v = at (fewest segs n (belongs_at segs ok n) s) v

module _ (segs : List Segment) (ok : ℕ → Bool) (n : ℕ) (inside : Inside segs ok n) (n_small : n ≤ none_yet) (few : length segs ≤ no_segment) (s : ℕ) (below : s < n) where
  at_ok : (i : ℕ) → belongs_at segs ok n i ≡ true → ok i ≡ true
  at_ok i e = (belongs_at_says segs ok n inside n_small few i e).there

  inside_tree : Inside segs (belongs_at segs ok n) n
  inside_tree = inside_part (λ i h. at_ok i) inside

  -- one entry for each post
  pub length_lightest : length (lightest segs ok n s) ≡ n
  unfolding lightest hung_from
  length_lightest = length_hung segs (belongs_at segs ok n) one n few (fewest segs n (belongs_at segs ok n) s)

  -- the source hangs by no segment
  pub light_source : entry (lightest segs ok n s) s ≡ no_segment
  unfolding lightest hung_from fewest
  light_source = hung_source segs (belongs_at segs ok n) one n inside_tree few s below (λ i h o. omega arith)

  -- a post that hangs, hangs by the lowest-numbered segment that belongs and leads one step nearer to the source
  pub light_says : (v : ℕ) → v < n → (entry (lightest segs ok n s) v ≡ no_segment → ⊥)
      → HangsBy segs (belongs_at segs ok n) one (fewest segs n (belongs_at segs ok n) s) v (entry (lightest segs ok n s) v)
  unfolding lightest hung_from
  light_says v h ne = hung_says segs (belongs_at segs ok n) one n few (fewest segs n (belongs_at segs ok n) s) v h ne

  -- DEPTH. The source's is 0
  pub depth_source : depth segs ok n s s ≡ 0
  unfolding fewest
  depth_source = least_zero segs (belongs_at segs ok n) one n inside_tree few s below

  -- a post's is one more than its parent's
  pub depth_parent : (v : ℕ) → v < n → (entry (lightest segs ok n s) v ≡ no_segment → ⊥) → depth segs ok n s v ≡ suc (depth segs ok n s (parent segs (lightest segs ok n s) v))
  depth_parent v h ne = omega (arith, (light_says v h ne).adds)

  -- fewer than the posts, where there is a route
  pub depth_few : (v : ℕ) → Chain segs ok s v → depth segs ok n s v < n
  depth_few v c = fewest_few segs (belongs_at segs ok n) n inside_tree s v below (belongs_at_chain segs ok n inside n_small few c)

  depth_most : (v : ℕ) → v < n → depth segs ok n s v ≤ none_yet
  unfolding fewest
  depth_most v h = least_most segs (belongs_at segs ok n) one n inside_tree s v h

  depth_chain : (v : ℕ) → depth segs ok n s v < none_yet → Chain segs (belongs_at segs ok n) s v
  unfolding fewest
  depth_chain v h = let z = least_is segs (belongs_at segs ok n) one n inside_tree s v h in record { is = z.is; route = z.route }

  deep_hangs : (v : ℕ) → v < n → (v ≡ s → ⊥) → depth segs ok n s v < none_yet → entry (lightest segs ok n s) v ≡ no_segment → ⊥
  unfolding lightest hung_from fewest
  deep_hangs v h ne k = hung_hangs segs (belongs_at segs ok n) one n inside_tree few s below v h ne k

  -- every post with a route, but the source, hangs
  pub light_hangs : (v : ℕ) → v < n → (v ≡ s → ⊥) → Chain segs ok s v → entry (lightest segs ok n s) v ≡ no_segment → ⊥
  light_hangs v h ne c = deep_hangs v h ne (omega (arith, depth_few v c))

  -- and every post that hangs has a route
  pub light_route : (v : ℕ) → v < n → (entry (lightest segs ok n s) v ≡ no_segment → ⊥) → Chain segs ok s v
  light_route v h ne =
      let z = light_says v h ne in
      let c = depth_chain (parent segs (lightest segs ok n s) v) (omega (arith, z.adds, depth_most v h)) in
      widen segs (λ i k. at_ok i) (join segs c (along segs z.leads z.there))

  -- CLIMBING, by entries that all pass a test
  module _ (P : ℕ → Bool) (entries : (v : ℕ) → v < n → (entry (lightest segs ok n s) v ≡ no_segment → ⊥) → P (entry (lightest segs ok n s) v) ≡ true) where
    climbs : (k v : ℕ) → v < n → depth segs ok n s v < k → depth segs ok n s v < none_yet → (long : ℕ) × Climb segs P (lightest segs ok n s) s v long
    climbs zero v h d f = absurd (omega arith)
    climbs (suc k) v h d f = elim (ℕ_discrete v s) [
      | yes e ↦ (0, arrived e)
      | no e ↦
          let hung-v = deep_hangs v h e f in
          let z = light_says v h hung-v in
          let c = climbs k (parent segs (lightest segs ok n s) v) (leads_from inside_tree z.leads z.there) (omega (arith, z.adds)) (omega (arith, z.adds)) in
          (length_at segs (entry (lightest segs ok n s) v) + c.0, up e z.leads (entries v h hung-v) c.1)
    ]

    climbs_by : (v : ℕ) → v < n → Chain segs ok s v → (long : ℕ) × Climb segs P (lightest segs ok n s) s v long
    climbs_by v h c = climbs n v h (depth_few v c) (omega (arith, depth_few v c))

  -- every post with a route is reached by a path of the tree
  pub light_climbs : (v : ℕ) → v < n → Chain segs ok s v → (long : ℕ) × Climb segs ok (lightest segs ok n s) s v long
  light_climbs v h c = climbs_by ok (λ v h ne. at_ok (entry (lightest segs ok n s) v) (light_says v h ne).there) v h c

  -- ENTRIES. Each is the number of a segment that belongs
  pub light_in : (v : ℕ) → v < n → (entry (lightest segs ok n s) v ≡ no_segment → ⊥)
      → (entry (lightest segs ok n s) v < length segs) × (belongs segs ok n (entry (lightest segs ok n s) v) ≡ true)
  light_in v h ne =
      let z = light_says v h ne in
      let k = z.leads.is_segment in
      (k, sym (belongs_at_law segs ok n inside n_small few (entry (lightest segs ok n s) v) k) ∙ z.there)

  -- two different posts hang by different segments: each would be the other's parent
  pub light_apart : (v x : ℕ) → v < n → x < n → (v ≡ x → ⊥) → (entry (lightest segs ok n s) v ≡ no_segment → ⊥) → entry (lightest segs ok n s) v ≡ entry (lightest segs ok n s) x → ⊥
  light_apart v x hv hx ne hung-v k =
      let a = light_says v hv hung-v in
      let b = rw (← k) at (light_says x hx (λ z. hung-v (k ∙ z))) in
      let ox = far_end segs a.leads (leads_back segs b.leads).ends (λ z. ne (sym z)) in
      let ov = far_end segs b.leads (leads_back segs a.leads).ends ne in
      omega (arith, a.adds, b.adds, ap (depth segs ok n s) ox, ap (depth segs ok n s) ov)

  -- each segment that belongs, where s leads, is the entry of one of its ends: else the paths of both would make a ring with it
  pub light_all : (i : ℕ) → i < length segs → belongs segs ok n i ≡ true → Chain segs ok s (nth_segment segs i).a → (v : ℕ) × (v < n) × (entry (lightest segs ok n s) v ≡ i)
  light_all i h e c = elim (ℕ_discrete (entry (lightest segs ok n s) (nth_segment segs i).a) i) [
    | yes p ↦ ((nth_segment segs i).a, inside.a_in i h there, p)
    | no p ↦ elim (ℕ_discrete (entry (lightest segs ok n s) (nth_segment segs i).b) i) [
      | yes q ↦ ((nth_segment segs i).b, inside.b_in i h there, q)
      | no q ↦
          let from_a = by_others p q (nth_segment segs i).a (inside.a_in i h there) c in
          let from_b = by_others p q (nth_segment segs i).b (inside.b_in i h there) (join segs c (along segs (ends_lead segs i h) there)) in
          absurd (no_ring segs ok n inside n_small few i h e (join segs (back segs from_a) from_b))
    ]
  ]
    where
      there : ok i ≡ true
      there = (belongs_says segs ok n inside n_small few i h e).there

      only_ends : (entry (lightest segs ok n s) (nth_segment segs i).a ≡ i → ⊥) → (entry (lightest segs ok n s) (nth_segment segs i).b ≡ i → ⊥)
          → (v : ℕ) → v < n → (entry (lightest segs ok n s) v ≡ no_segment → ⊥) → entry (lightest segs ok n s) v ≡ i → ⊥
      only_ends p q v hv ne k =
          let t = rw k at (leads_back segs (light_says v hv ne).leads).ends in
          clash t (no_third segs v (ends_lead segs i h) (λ z. p (ap (entry (lightest segs ok n s)) (sym z) ∙ k)) (λ z. q (ap (entry (lightest segs ok n s)) (sym z) ∙ k)))

      by_others : (entry (lightest segs ok n s) (nth_segment segs i).a ≡ i → ⊥) → (entry (lightest segs ok n s) (nth_segment segs i).b ≡ i → ⊥)
          → (v : ℕ) → v < n → Chain segs ok s v → Chain segs (without (belongs segs ok n) i) s v
      by_others p q v hv d =
          climb_chain segs (without (belongs segs ok n) i) (lightest segs ok n s) s (climbs_by (without (belongs segs ok n) i)
          (λ x hx ne. without_keeps (belongs segs ok n) i (entry (lightest segs ok n s) x) (light_in x hx ne).1 (only_ends p q x hx ne)) v hv d).1

  -- the entries of the lightest tree are exactly the segments that belong
  pub exactly_belonging : ExactlyBelonging segs ok n s (lightest segs ok n s)
  exactly_belonging =
      record {
        is_segment = λ v h ne. (light_in v h ne).0;
        each_belongs = λ v h ne. belongs_at_says segs ok n inside n_small few (entry (lightest segs ok n s) v) (light_says v h ne).there;
        each_hangs = λ i h z. light_all i h (belongs_is segs ok n inside n_small few i z);
        different = light_apart;
      }

  -- the lightest tree comes to no more than the segments that belong
  lightest_cost : whole segs n (lightest segs ok n s) ≤ set_length segs (belongs segs ok n)
  unfolding whole
  lightest_cost =
      let t = lightest segs ok n s in
      omega (
        arith,
        list_cost segs n t (belongs segs ok n) (λ v h e. (light_in v h (hangs_entry t v e)).0) (λ v x vx h e k. absurd (light_apart v x (omega arith) h (λ z. omega arith) (hangs_entry t v e) k)),
        sum_le n (λ v. counted (hangs t v) (length_at segs (entry t v))) (λ v. counted (hangs t v && belongs segs ok n (entry t v)) (length_at segs (entry t v)))
            (λ v h. counted_mono (hangs t v) (hangs t v && belongs segs ok n (entry t v)) (length_at segs (entry t v)) (λ e. and_i e (light_in v h (hangs_entry t v e)).1)),
      )

  -- LEAST. The lightest tree comes to no more than any segments that join the ends of each segment
  pub lightest_least : (U : ℕ → Bool) → Spans segs ok U → whole segs n (lightest segs ok n s) ≤ set_length segs U
  lightest_least U z =
      omega (arith, belongs_least segs ok n inside n_small few U z, lightest_cost)

  -- nor than any tree
  pub lightest_least_tree : {t : List ℕ} {path : ℕ → ℕ} → IsTree segs ok n s t path → whole segs n (lightest segs ok n s) ≤ whole segs n t
  lightest_least_tree {t} z = omega (arith, lightest_least (used_by n t) (tree_spans segs ok n inside few s t z), used_cost segs n t few)

  -- where every post has a route, the segments that belong are a spanning tree
  pub lightest_spans : ((v : ℕ) → v < n → Chain segs ok s v) → SpanningTree segs ok n s (belongs_at segs ok n)
  lightest_spans reach =
      record {
        spans = record { made_of = λ i h. at_ok i; joins = λ v h. belongs_at_chain segs ok n inside n_small few (reach v h) };
        no_ring = λ i h e c. no_ring segs ok n inside n_small few i h (sym (belongs_at_law segs ok n inside n_small few i h) ∙ e)
            (widen segs (λ j k o. rw (← belongs_at_law segs ok n inside n_small few j k) o) c);
      }
