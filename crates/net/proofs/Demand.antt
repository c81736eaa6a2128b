-- Demand 3 over the definitions, of a net that nothing from 1 to 7 refuses, at any ratio for each post. A route is asked only of the post in question:
-- a post with a route is reached by the third tree (`between_reaches`), by a path within its ratio of every route (`path_limit`), and as long as a shortest
-- route where p = 0 (`no_slack`). The third tree is within the ratio of any segments that join all posts (`length_limit`), spanning trees among them (`length_limit_tree`),
-- for every smallest ratio of a post but the source (`smallest_small`). The margin of a post is not below zero in the third tree nor in the shortest, and 0 at the source.
use mathlib.Core.Path.{◌≡◌, refl, ap}
use mathlib.Core.Bool.{Bool, false}
use mathlib.Core.List.{List}
use Prim.Native.Nat.{ℕ, ◌+◌, ◌*◌, ◌≤◌, ◌<◌, zero, suc}
use native.Mathlib.Omega.{arith}
use native.Mathlib.Nat.{mul-le-mul_left, le_of_mul-le-mul_left, le_trans, zero-add, add-mul}
use lib.ListN.{length}
use lib.IntN.{pos}
use lib.Signed.{lt_z}
use Rattle.net.specs.Net.{Net, length_at, Route, Chain, route_length, set_length, JoinsAll, SpanningTree}
use Rattle.net.specs.Rules.{NetSound, AllJoined}
use Rattle.net.specs.Trees.{at, IsLeast, Climb, the_path_in, whole, entry, path_up, the_margin_by}
use Rattle.net.specs.Building.{Smallest, p_of, q_of, least_lengths_of, walk_with, tree_of, between_of, walk_of, the_margin_in}
use Rattle.net.specs.declared.Segment.{Segment}
use Rattle.net.proofs.Climbs.{climb_route}
use Rattle.net.specs.Words.{AllOf, no_segment}
use Rattle.net.specs.declared.Tree.{Tree}
use Rattle.net.specs.declared.Tree.TheVariants.{Lightest, Shortest, Between}
use Rattle.net.proofs.Margin.{margin_within, margin_zero}
use Rattle.net.proofs.Laid.{laid_all}
use Rattle.net.proofs.Sound.{g, walk_is, is_owed, d_is_least, between_within, walked_limit, lightest_limit, shortest_path, lightest_tree, shortest_tree, between_tree, d_source}

-- m is the number of segments that is claimed, and the list has no more
module _ (ok : ℕ → Bool) (m : ℕ) (n : Net) (fits : length n.segments ≤ m) (sound : NetSound ok m n) where
  abbrev segs : List Segment
  segs = n.segments

  abbrev posts : ℕ
  posts = n.head.posts

  abbrev s : ℕ
  s = n.head.source

  -- ANY RATIO FOR EACH POST
  module _ (p q : ℕ → ℕ) where
    abbrev third : List ℕ
    third = (walk_with ok n p q).entries

    -- a post with a route is reached by the third tree, by a path of the length that `the_path_in` gives
    pub between_reaches : (v : ℕ) → v < posts → Chain segs ok s v → Climb segs ok third s v (the_path_in segs posts third v)
    between_reaches v h c = (between_within ok m n fits sound p q v h c).climb

    -- q × path ≤ (p + q) × the length of every route
    pub path_limit : (v : ℕ) → v < posts → (is : List ℕ) → Route segs ok s is v → q v * the_path_in segs posts third v ≤ (p v + q v) * route_length segs is
    unfolding least_lengths_of
    path_limit v h is r =
        let c : Chain segs ok s v = record { is = is; route = r } in
        le_trans (between_within ok m n fits sound p q v h c).limit (mul-le-mul_left (p v + q v) ((d_is_least ok m n fits sound v c).no_less is r))

    -- with p = 0 the path is as long as a shortest route
    pub no_slack : (v : ℕ) → v < posts → Chain segs ok s v → p v ≡ 0 → 1 ≤ q v → IsLeast segs ok (length_at segs) s v (the_path_in segs posts third v)
    no_slack v h c e k =
        let d = d_is_least ok m n fits sound v c in
        let r = climb_route segs ok third s (between_reaches v h c) in
        let a = d.no_less r.0 r.1 in
        let b = path_limit v h d.is d.route in
        let z : q v * the_path_in segs posts third v ≤ q v * at (least_lengths_of ok n) v = same (p v) e b d.comes_to in
        let y : at (least_lengths_of ok n) v ≡ the_path_in segs posts third v = omega (arith, a, r.2, le_of_mul-le-mul_left z k) in
        rw (← y) d
      where
        same : {x y : ℕ} (a : ℕ) → a ≡ 0 → x ≤ (a + q v) * y → {D : ℕ} → y ≡ D → x ≤ q v * D
        same {x} {y} a e b {D} f = omega (arith, b, ap (λ (k : ℕ). (k + q v) * y) e, ap (λ (k : ℕ). k * y) (zero-add (q v)), ap (λ (k : ℕ). q v * k) f)

    -- a smallest ratio of a post but the source is no larger than the ratio of any post laid
    pub smallest_small : {v₀ : ℕ} → Smallest p q posts s v₀ → AllOf (λ v. p v₀ * q v ≤ p v * q v₀) (walk_with ok n p q).laid
    smallest_small {v₀} z =
        rw (walk_is ok m n fits sound p q)
        (laid_all (g ok m n fits sound p q) ok s (is_owed ok m n fits sound p q) (λ v. p v₀ * q v ≤ p v * q v₀) z.no_smaller posts)

    -- p₀/q₀ is no larger than the ratio of any post laid
    module _ (p₀ q₀ : ℕ) (small : AllOf (λ v. p₀ * q v ≤ p v * q₀) (walk_with ok n p q).laid) where
      -- p × length ≤ (p + 2q) × the length of any segments that join all posts
      pub length_limit : (U : ℕ → Bool) → JoinsAll segs ok posts s U → p₀ * whole segs posts third ≤ (p₀ + 2 * q₀) * set_length segs U
      length_limit U j = le_trans (walked_limit ok m n fits sound p q p₀ q₀ small) (mul-le-mul_left (p₀ + 2 * q₀) (lightest_limit ok m n fits sound U j))

      -- "any spanning tree of the net"
      pub length_limit_tree : (U : ℕ → Bool) → SpanningTree segs ok posts s U → p₀ * whole segs posts third ≤ (p₀ + 2 * q₀) * set_length segs U
      length_limit_tree U t = length_limit U t.spans

  -- MARGINS at each post's own ratio
  margin_is : (t : Tree) (v : ℕ) → the_margin_in ok n t v ≡ the_margin_by (p_of n v) (q_of n v) (at (least_lengths_of ok n) v) (the_path_in segs posts (tree_of ok n t) v)
  unfolding the_margin_in
  margin_is t v = refl

  -- the margin of a post in the third tree is not below zero
  pub between_margin : (v : ℕ) → v < posts → Chain segs ok s v → lt_z (the_margin_in ok n Between v) (pos 0) ≡ false
  unfolding tree_of between_of walk_of least_lengths_of
  between_margin v h c =
      rw (margin_is Between v)
      (margin_within (p_of n v) (q_of n v) (at (least_lengths_of ok n) v) (the_path_in segs posts (tree_of ok n Between) v)
      (between_within ok m n fits sound (p_of n) (q_of n) v h c).limit)

  module _ (joined : AllJoined ok n) where
    -- nor in the shortest tree
    pub shortest_margin : (v : ℕ) → v < posts → lt_z (the_margin_in ok n Shortest v) (pos 0) ≡ false
    unfolding tree_of
    shortest_margin v h =
        let D = at (least_lengths_of ok n) v in
        rw (margin_is Shortest v, shortest_path ok m n fits sound joined v h)
        (margin_within (p_of n v) (q_of n v) D D (omega (arith, add-mul (p_of n v) (q_of n v) D)))

    -- "For the source it is 0."
    free_path : (t : List ℕ) → entry t s ≡ no_segment → (k : ℕ) → path_up segs posts t k s ≡ 0
    unfolding path_up
    free_path t e zero = refl
    free_path t e (suc k) = rw e

    source_free : (t : Tree) → entry (tree_of ok n t) s ≡ no_segment
    unfolding tree_of between_of walk_of
    source_free Lightest = (lightest_tree ok m n fits sound joined).source_entry
    source_free Shortest = (shortest_tree ok m n fits sound joined).source_entry
    source_free Between = (between_tree ok m n fits sound joined (p_of n) (q_of n)).source_entry

    source_path : (t : Tree) → the_path_in segs posts (tree_of ok n t) s ≡ 0
    unfolding the_path_in
    source_path t = free_path (tree_of ok n t) (source_free t) posts

    pub source_margin : (t : Tree) → the_margin_in ok n t s ≡ pos 0
    source_margin t =
        rw (margin_is t s, source_path t, d_source ok m n fits sound) (margin_zero (p_of n s) (q_of n s))
