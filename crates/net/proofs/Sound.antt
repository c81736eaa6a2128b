-- A net that nothing from 1 to 7 refuses is all that the laws of the trees and of the walk ask for, at any ratio for each post: each post with a route is
-- reached by the third tree within its limit (`between_within`), Req 12's two inequalities hold (`laid_length`, `laid_sum`), and no segments that join all
-- posts are lighter than the lightest tree (`lightest_limit`). Where all posts are joined, each of the three lists is a tree that reaches all of them.
use mathlib.Core.Path.{◌≡◌, refl, ap, ◌∙◌}
use mathlib.Core.Bool.{Bool, true}
use mathlib.Core.List.{List}
use Prim.Native.Nat.{ℕ, zero, suc, ◌+◌, ◌*◌, ◌≤◌, ◌<◌}
use native.Mathlib.Omega.{arith}
use native.Mathlib.Nat.{mul-le-mul_right, le_trans}
use native.Mathlib.Decide.{dec_lt, ℕ_discrete}
use lib.ListN.{length, get_or-eq_default}
use mathlib.Core.Logic.{inl, inr}
use borrow.Author.Tests.{eq-eqb}
use Rattle.net.specs.Words.{counted, AllOf, no_segment}
use Rattle.net.specs.Net.{Net, most_posts, longest, length_at, other, Chain, weigh, set_length, JoinsAll}
use Rattle.net.specs.Rules.{NetSound, AllJoined}
use Rattle.net.specs.Trees.{none_yet, at, IsLeast, Belongs, the_least_lengths, hanging_weight, lightest, ExactlyBelonging, entry, hangs, parent, whole, Climb, IsTree, the_path_in, HangsBy}
use Rattle.net.specs.Walk.{Given, at_start, child, walk}
use Rattle.net.specs.Building.{lightest_of, least_lengths_of, shortest_of, given_with, walk_with}
use Rattle.net.specs.declared.Segment.{Segment}
use Rattle.net.proofs.Words.{and_i, true_or_false, counted_le}
use Rattle.net.proofs.Sums.{sum_most}
use Rattle.net.proofs.Least.{Inside, leads_from, least_small, least_is_least}
use Rattle.net.proofs.Routes.{leads_back, join, along}
use Rattle.net.proofs.Hung.{least_zero}
use Rattle.net.proofs.Used.{hangs_entry}
use Rattle.net.proofs.Lightest.{length_lightest, light_says, light_hangs, light_in, depth, depth_parent, depth_few, depth_source, exactly_belonging, light_source, light_climbs, lightest_least, light_route}
use Rattle.net.proofs.Shortest.{given, owed, length_shortest, shortest_source, short_climb, short_says}
use Rattle.net.proofs.Notes.{Owed}
use Rattle.net.proofs.Tour.{Down, stop, down_on, child_entry, child_parent}
use Rattle.net.proofs.Belongs.{joins_spans}
use Rattle.net.proofs.Length.{between_length}
use Rattle.net.proofs.Climbs.{climb_path}
use Rattle.net.proofs.Between.{length_between, between_source, laid_twice, between_weight, Within, between_climb}

-- m is the number of segments that is claimed, and the list has no more
module _ (ok : ℕ → Bool) (m : ℕ) (n : Net) (fits : length n.segments ≤ m) (sound : NetSound ok m n) where
  abbrev segs : List Segment
  segs = n.segments

  abbrev posts : ℕ
  posts = n.head.posts

  abbrev s : ℕ
  s = n.head.source

  pub inside : Inside segs ok posts
  inside =
      record {
        a_in = λ i h o. (sound.segments_sound i h o).ends_sound.a_in;
        b_in = λ i h o. (sound.segments_sound i h o).ends_sound.b_in;
      }

  pub below : s < posts
  below = sound.head_sound.source_in

  posts_few : posts ≤ most_posts
  posts_few = sound.head_sound.posts_sound.few_posts

  pub n_small : posts ≤ none_yet
  n_small = omega (arith, posts_few)

  pub few : length segs ≤ no_segment
  few = omega (arith, sound.few_segments)

  pub heavy : (i : ℕ) → i < length segs → ok i ≡ true → 1 ≤ hanging_weight segs i
  unfolding hanging_weight
  heavy i h o = (sound.segments_sound i h o).some_length

  not_long : (i : ℕ) → i < length segs → ok i ≡ true → length_at segs i ≤ longest
  not_long i h o = (sound.segments_sound i h o).not_too_long

  -- the lightest list's entries are exactly the segments that belong, each once
  pub lightest_exactly : ExactlyBelonging segs ok posts s (lightest_of ok n)
  unfolding lightest_of
  lightest_exactly = exactly_belonging segs ok posts inside n_small few s below

  pub d_noted : (v : ℕ) → Chain segs ok s v → at (the_least_lengths segs ok posts s) v < none_yet
  unfolding the_least_lengths
  d_noted v c =
      let z = least_small segs ok (length_at segs) posts inside s below longest v not_long c in
      omega (arith, z.1, z.2, posts_few)

  -- D(v) is the least length of a route, where there is one
  pub d_is_least : (v : ℕ) → Chain segs ok s v → IsLeast segs ok (length_at segs) s v (at (least_lengths_of ok n) v)
  unfolding least_lengths_of the_least_lengths
  d_is_least v c = least_is_least segs ok (length_at segs) posts inside s below v (d_noted v c)

  pub d_source : at (least_lengths_of ok n) s ≡ 0
  unfolding least_lengths_of the_least_lengths
  d_source = least_zero segs ok (length_at segs) posts inside few s below

  -- "Post v hangs by the lowest-numbered segment from some u with D(u) plus its length equal to D(v)."
  pub shortest_says : (v : ℕ) → v < posts → (v ≡ s → ⊥) → Chain segs ok s v → HangsBy segs ok (length_at segs) (least_lengths_of ok n) v (entry (shortest_of ok n) v)
  unfolding least_lengths_of shortest_of
  shortest_says v h ne c = short_says segs ok posts s inside below few heavy v h ne (d_noted v c)

  -- THE TREE WALKED
  -- its posts' entries are segments that are there
  light_there : (v : ℕ) → v < posts → (entry (lightest segs ok posts s) v ≡ no_segment → ⊥) → ok (entry (lightest segs ok posts s) v) ≡ true
  light_there v h ne = (lightest_belongs v h ne).there
    where
      lightest_belongs : (v : ℕ) → v < posts → (entry (lightest segs ok posts s) v ≡ no_segment → ⊥) → Belongs segs ok posts (entry (lightest segs ok posts s) v)
      lightest_belongs = (exactly_belonging segs ok posts inside n_small few s below).each_belongs

  light_length : whole segs posts (lightest segs ok posts s) ≤ posts * longest
  unfolding whole
  light_length = sum_most posts longest (λ v. counted (hangs (lightest segs ok posts s) v) (length_at segs (entry (lightest segs ok posts s) v))) term
    where
      term : (v : ℕ) → v < posts → counted (hangs (lightest segs ok posts s) v) (length_at segs (entry (lightest segs ok posts s) v)) ≤ longest
      term v h = elim (true_or_false (hangs (lightest segs ok posts s) v)) [
        | inl e ↦
            let ne = hangs_entry (lightest segs ok posts s) v e in
            let k = (light_in segs ok posts inside n_small few s below v h ne).0 in
            le_trans (counted_le (hangs (lightest segs ok posts s) v) (length_at segs (entry (lightest segs ok posts s) v))) (not_long (entry (lightest segs ok posts s) v) k (light_there v h ne))
        | inr e ↦ rw e (omega arith)
      ]

  light_enough : 2 * whole segs posts (lightest segs ok posts s) < none_yet
  light_enough = omega (arith, light_length, posts_few, mul-le-mul_right longest posts_few)

  module _ (p q : ℕ → ℕ) where
    abbrev pub g : Given
    g = given segs ok posts s inside below few heavy (lightest segs ok posts s) p q

    pub walk_is : walk_with ok n p q ≡ walk g posts s (at_start posts s)
    unfolding walk_with given_with lightest_of shortest_of least_lengths_of
    walk_is = refl

    -- a child is a post that hangs by its segment
    child_in : (v i : ℕ) → i < length segs → child g v i ≡ true → (other segs i v < posts) × (entry (lightest segs ok posts s) (other segs i v) ≡ i)
    child_in v i h e = elim (dec_lt (other segs i v) posts) [
      | yes k ↦ (k, child_entry g v i e)
      | no k ↦
          absurd (omega (
            arith,
            few,
            child_entry g v i e,
            get_or-eq_default (lightest segs ok posts s) no_segment {n = other segs i v} (omega (arith, length_lightest segs ok posts inside n_small few s below)),
          ))
    ]

    child_hangs : (v i : ℕ) → i < length segs → child g v i ≡ true → entry (lightest segs ok posts s) (other segs i v) ≡ no_segment → ⊥
    child_hangs v i h e z = omega (arith, few, (child_in v i h e).1)

    child_there : (v i : ℕ) → i < length segs → child g v i ≡ true → ok i ≡ true
    child_there v i h e = rw (child_in v i h e).1 at (light_there (other segs i v) (child_in v i h e).0 (child_hangs v i h e))

    pub is_owed : Owed g ok s
    is_owed = owed segs ok posts s inside below few heavy (lightest segs ok posts s) p q child_there

    pub child_deeper : (v i : ℕ) → i < length segs → child g v i ≡ true → depth segs ok posts s (other segs i v) ≡ suc (depth segs ok posts s v)
    child_deeper v i h e =
        depth_parent segs ok posts inside n_small few s below (other segs i v) (child_in v i h e).0 (child_hangs v i h e)
        ∙ ap (λ (x : ℕ). suc (depth segs ok posts s x)) (child_parent g v i h e)

    pub child_shallow : (v i : ℕ) → i < length segs → child g v i ≡ true → depth segs ok posts s (other segs i v) < posts
    child_shallow v i h e =
        let c = (child_in v i h e).0 in
        depth_few segs ok posts inside n_small few s below (other segs i v) (light_route segs ok posts inside n_small few s below (other segs i v) c (child_hangs v i h e))

    -- every post with a route hangs below the source, as deep as its path has segments
    downs : (k v : ℕ) → v < posts → Chain segs ok s v → depth segs ok posts s v < k → Down g s (depth segs ok posts s v) v
    downs zero v h c d = absurd (omega arith)
    downs (suc k) v h c d = elim (ℕ_discrete v s) [
      | yes e ↦ rw (e, depth_source segs ok posts inside n_small few s below) stop
      | no e ↦ go e (light_hangs segs ok posts inside n_small few s below v h e c) (λ u. downs k u)
    ]
      where
        go : (v ≡ s → ⊥) → (entry (lightest segs ok posts s) v ≡ no_segment → ⊥) → ((u : ℕ) → u < posts → Chain segs ok s u → depth segs ok posts s u < k → Down g s (depth segs ok posts s u) u) → Down g s (depth segs ok posts s v) v
        go ne hung ih =
            let z = light_says segs ok posts inside n_small few s below v h hung in
            let i = entry (lightest segs ok posts s) v in
            let u = parent segs (lightest segs ok posts s) v in
            let o = light_there v h hung in
            let a = depth_parent segs ok posts inside n_small few s below v h hung in
            let cu : Chain segs ok s u = join segs c (along segs (leads_back segs z.leads) o) in
            let is_child : child g u i ≡ true = and_i z.leads.ends (eq-eqb (entry (lightest segs ok posts s) (other segs i u)) i (ap (entry (lightest segs ok posts s)) z.leads.across)) in
            let r = down_on g (ih u (leads_from inside z.leads o) cu (omega arith)) z.leads.is_segment is_child in
            rw a (rw z.leads.across at r)

    -- EACH POST WITH A ROUTE IS REACHED BY THE THIRD TREE, WITHIN ITS LIMIT
    pub between_within : (v : ℕ) → v < posts → Chain segs ok s v → Within g ok s (walk_with ok n p q).entries v
    between_within v h c =
        rw walk_is
        (between_climb g ok s is_owed (depth segs ok posts s) child_deeper light_enough v (depth segs ok posts s v) h (downs (suc (depth segs ok posts s v)) v h c (omega arith))
        (depth_few segs ok posts inside n_small few s below v c))

    -- REQ 12: length ≤ tree walked + the least lengths of the posts laid
    pub laid_length : whole segs posts (walk_with ok n p q).entries ≤ whole segs posts (lightest_of ok n) + weigh (at (least_lengths_of ok n)) (walk_with ok n p q).laid
    unfolding lightest_of least_lengths_of
    laid_length = rw walk_is (between_length g ok s is_owed posts)

    -- p₀/q₀ is no larger than the ratio of any post laid
    module _ (p₀ q₀ : ℕ) (small : AllOf (λ v. p₀ * q v ≤ p v * q₀) (walk_with ok n p q).laid) where
      -- REQ 12: p × the least lengths of the posts laid ≤ 2q × the tree walked
      pub laid_sum : p₀ * weigh (at (least_lengths_of ok n)) (walk_with ok n p q).laid ≤ 2 * q₀ * whole segs posts (lightest_of ok n)
      unfolding lightest_of least_lengths_of
      laid_sum = rw walk_is (laid_twice g ok s is_owed (depth segs ok posts s) child_deeper p₀ q₀ (rw walk_is at small))

      -- so p × length ≤ (p + 2q) × the tree walked
      pub walked_limit : p₀ * whole segs posts (walk_with ok n p q).entries ≤ (p₀ + 2 * q₀) * whole segs posts (lightest_of ok n)
      unfolding lightest_of
      walked_limit = rw walk_is (between_weight g ok s is_owed (depth segs ok posts s) child_deeper p₀ q₀ (rw walk_is at small))

  -- no segments that join all posts are lighter than the lightest tree
  pub lightest_limit : (U : ℕ → Bool) → JoinsAll segs ok posts s U → whole segs posts (lightest_of ok n) ≤ set_length segs U
  unfolding lightest_of
  lightest_limit U j = lightest_least segs ok posts inside n_small few s below U (joins_spans inside j)

  -- EVERY POST JOINED TO THE SOURCE
  module _ (joined : AllJoined ok n) where
    pub lightest_tree : IsTree segs ok posts s (lightest_of ok n) (the_path_in segs posts (lightest_of ok n))
    unfolding lightest_of
    lightest_tree =
        let e = light_source segs ok posts inside n_small few s below in
        record {
          one_each = length_lightest segs ok posts inside n_small few s below;
          source_entry = e;
          reaches = λ v h.
              let c = light_climbs segs ok posts inside n_small few s below v h (joined v h) in
              rw (climb_path segs ok (lightest segs ok posts s) s posts inside few e h c.1) c.1;
        }

    short_climbs : (v : ℕ) → v < posts → Climb segs ok (shortest_of ok n) s v (at (least_lengths_of ok n) v)
    unfolding shortest_of least_lengths_of
    short_climbs v h = short_climb segs ok posts s inside below few heavy v h (d_noted v (joined v h))

    short_source : entry (shortest_of ok n) s ≡ no_segment
    unfolding shortest_of
    short_source = shortest_source segs ok posts s inside below few heavy

    -- a path of the shortest tree is as long as a shortest route
    pub shortest_path : (v : ℕ) → v < posts → the_path_in segs posts (shortest_of ok n) v ≡ at (least_lengths_of ok n) v
    shortest_path v h = climb_path segs ok (shortest_of ok n) s posts inside few short_source h (short_climbs v h)

    short_long : length (shortest_of ok n) ≡ posts
    unfolding shortest_of
    short_long = length_shortest segs ok posts s inside below few heavy

    pub shortest_tree : IsTree segs ok posts s (shortest_of ok n) (the_path_in segs posts (shortest_of ok n))
    shortest_tree = record { one_each = short_long; source_entry = short_source; reaches = λ v h. rw (shortest_path v h) (short_climbs v h) }

    pub between_tree : (p q : ℕ → ℕ) → IsTree segs ok posts s (walk_with ok n p q).entries (the_path_in segs posts (walk_with ok n p q).entries)
    between_tree p q =
        record {
          one_each = rw (walk_is p q) (length_between (g p q) ok s (is_owed p q) (depth segs ok posts s) (child_deeper p q));
          source_entry = rw (walk_is p q) (between_source (g p q) ok s (is_owed p q) (depth segs ok posts s) (child_deeper p q));
          reaches = λ v h. (between_within p q v h (joined v h)).climb;
        }
