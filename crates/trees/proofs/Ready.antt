-- What a net that is ready gives to each crate that works on it: ends that are posts, lengths within bounds, and nothing too large.
use mathlib.Core.Path.{◌≡◌, refl, sym, ap, ◌∙◌}
use mathlib.Core.Bool.{Bool, true, false}
use mathlib.Core.List.{List, ◌++◌, append-nil}
use Prim.Native.Nat.{ℕ, ◌≤◌, ◌<◌}
use native.Mathlib.Omega.{arith}
use native.Mathlib.Nat.{le_refl}
use lib.ListN.{length, get_or, take, drop, replicate, drop_of_length-le}
use Rattle.net.specs.Net.{own_of, ratios_of, every, segments_of}
use Rattle.net.specs.Trees.{none_yet, at, belonging, lightest, the_least_lengths, shortest}
use Rattle.net.specs.Building.{p_of, q_of, lightest_of, shortest_of, least_lengths_of, walk_of, between_of, laid_of}
use Rattle.net.specs.declared.Head.{Head}
use Rattle.net.proofs.Least.{inside_part}
use Rattle.hanging.specs.Lists.{Ends, Short}
use Rattle.net.proofs.Segments.{segments_are, get_d_any}
use Rattle.lightest.specs.Marks.{there, Fit}
use Rattle.lightest.specs.Order.{Sortable}
use Rattle.lightest.proofs.Fitting.{inside_fit}
use Rattle.lightest.proofs.Presence.{belonging_every}
use Rattle.shortest.proofs.Trees.{length_first, first_at}
use Rattle.between.specs.Given.{Level, Ratios}
use Rattle.between.specs.Asked.{Walkable, walked_of, ThirdTree}
use Rattle.between.proofs.Nets.{walked_of_net, net_walkable, length_lengths, least_low}
use Rattle.net.specs.Ready.{net_at, Ready}
use Rattle.net.proofs.Ready.{ready_count, ready_few, ready_posts, ready_inside}
use Rattle.net.proofs.Own.{all_own, post_ratio_sound}
use Rattle.trees.specs.Ratios.{numbers_for}
use Rattle.trees.specs.Worked.{AllThere, Worked}
use Rattle.trees.proofs.Ratios.{number_p, number_q, numbers_at, numbers_long}

-- m marks that are all true
pub all_there : (m : ℕ) → m ≤ 2048 → AllThere (take m (replicate 2048 true)) m
all_there m h = record { one_each = length_first 2048 m true h; all_true = λ i k. first_at 2048 m true false h i k }

-- all segments have ends that are posts, so some have
pub some_ends : {n : ℕ} {a b : List ℕ} {ok : ℕ → Bool} → Ends n a b every → Ends n a b ok
some_ends z = record { b_many = z.b_many; few = z.few; a_in = λ i h o. z.a_in i h refl; b_in = λ i h o. z.b_in i h refl }

-- a list of as many entries as are made anew
pub front_only : (n : ℕ) (g l t : List ℕ) → length l ≡ n → t ≡ g ++ drop n l → t ≡ g
front_only n g l t e f = let k : length l ≤ n = omega arith in f ∙ rw (drop_of_length-le l k) (append-nil g)

module _ {head : Head} {p q a b lengths : List ℕ} (r : Ready head p q a b lengths) where
  pub ready_ends : Ends head.posts a b every
  ready_ends =
      let s = segments_are a b lengths r.b_level r.lengths_level in
      record {
        b_many = r.b_level;
        few = ready_few r;
        a_in = λ i h o. rw (← s.a_is i) ((ready_inside r).a_in i (omega (arith, ready_count r)) o);
        b_in = λ i h o. rw (← s.b_is i) ((ready_inside r).b_in i (omega (arith, ready_count r)) o);
      }

  level_at : Level a b lengths
  level_at = record { b_level = r.b_level; lengths_level = r.lengths_level }

  pub ready_short : Short lengths
  ready_short =
      let s = segments_are a b lengths r.b_level r.lengths_level in
      record { most = λ i h. rw (← s.length_is i) (r.sound.segments_sound i (omega (arith, ready_count r, r.lengths_level)) refl).not_too_long }

  pub ready_sortable : Sortable lengths
  ready_sortable = record { few = omega (arith, ready_few r, r.lengths_level); short = ready_short.most }

  -- posts and source: the head's as indices
  module _ {posts : ℕ} (posts-is : posts ≡ head.posts) where
    pub fit_at : {present : List Bool} → AllThere present (length a) → Fit posts a b lengths present
    fit_at {present} z =
        rw posts-is
        (inside_fit (omega (arith, ready_posts r)) (omega (arith, ready_few r, r.lengths_level)) (sym r.lengths_level) (r.b_level ∙ sym r.lengths_level) (z.one_each ∙ sym r.lengths_level)
        (inside_part (λ i h o. refl) (ready_inside r)))

    -- the belonging marks where all segments are there
    pub marks_at : {present marks : List Bool} → AllThere present (length a) → marks ≡ belonging (segments_of a b lengths) (there present) posts → marks ≡ belonging (segments_of a b lengths) every posts
    marks_at z f = f ∙ belonging_every (fit_at z) (λ j h. z.all_true j (omega (arith, r.lengths_level)))

    module _ {source : ℕ} (source_is : source ≡ head.source) where
      -- the lightest tree by these is the net's
      pub lightest_at : {t : List ℕ} → t ≡ lightest (segments_of a b lengths) every posts source → t ≡ lightest_of every (net_at head p q a b lengths)
      unfolding lightest_of
      lightest_at e = e ∙ rw (posts-is, source_is)

  -- what `shortest_tree` leaves in two lists with an entry for each post
  pub worked_at : {d t : List ℕ} (d₀ t₀ : List ℕ) → length d₀ ≡ head.posts → length t₀ ≡ head.posts
      → d ≡ the_least_lengths (segments_of a b lengths) every head.posts head.source ++ drop head.posts d₀
      → t ≡ shortest (segments_of a b lengths) every head.posts head.source ++ drop head.posts t₀
      → Worked (net_at head p q a b lengths) d t
  unfolding least_lengths_of shortest_of
  worked_at {d} {t} d₀ t₀ k l e f =
      record {
        lengths_are = front_only head.posts (the_least_lengths (segments_of a b lengths) every head.posts head.source) d₀ d k e;
        tree_is = front_only head.posts (shortest (segments_of a b lengths) every head.posts head.source) t₀ t l f;
      }

  module _ {source : ℕ} (source_is : source ≡ head.source) {dist short : List ℕ} (w : Worked (net_at head p q a b lengths) dist short) where
    pub dist_long : length dist ≡ head.posts
    dist_long = ap length w.lengths_are ∙ length_lengths (length (segments_of a b lengths)) head (own_of head (ratios_of p q)) a b lengths level_at (le_refl _) r.sound

    -- the third tree at each post's ratio: what is asked, and what is left
    module _ (enough : head.posts ≤ length (ratios_of p q)) {x y : List ℕ} (x-is : x ≡ numbers_for head head.p p) (y-is : y ≡ numbers_for head head.q q) where
      x_at : (v : ℕ) → v < head.posts → get_or x v 0 ≡ p_of (net_at head p q a b lengths) v
      x_at v h = numbers_at head head.p p x-is v h ∙ number_p head p q (segments_of a b lengths) enough v h

      y_at : (v : ℕ) → v < head.posts → get_or y v 0 ≡ q_of (net_at head p q a b lengths) v
      y_at v h = numbers_at head head.q q y-is v h ∙ number_q head p q (segments_of a b lengths) enough v h

      each_ratio : Ratios head.posts x y
      each_ratio =
          let s = post_ratio_sound (net_at head p q a b lengths) every (length (segments_of a b lengths)) r.sound (all_own head (ratios_of p q) (segments_of a b lengths) enough) in
          record {
            p_long = omega (arith, numbers_long head head.p p x-is);
            q_long = omega (arith, numbers_long head head.q q y-is);
            p_most = λ v k. omega (arith, x_at v k, (s v k).small_p);
            q_most = λ v k. omega (arith, y_at v k, (s v k).small_q);
            q_some = λ v k. omega (arith, y_at v k, (s v k).some_q);
          }

      pub walkable_at : Walkable source x y a b lengths short dist
      walkable_at =
          rw (source_is, w.lengths_are, w.tree_is)
          (net_walkable (length (segments_of a b lengths)) head (own_of head (ratios_of p q)) a b lengths level_at (le_refl _) r.sound x y each_ratio)

      pub third_at : {light : List ℕ} → light ≡ lightest_of every (net_at head p q a b lengths) → {laid : ℕ} {t : List ℕ} → ThirdTree source x y a b lengths light short dist laid t
          → (laid ≡ length (laid_of every (net_at head p q a b lengths))) × (t ≡ between_of every (net_at head p q a b lengths))
      unfolding laid_of between_of
      third_at {light} light_is {laid} {t} z =
          let walked_at : walked_of source x y a b lengths light short dist ≡ walk_of every (net_at head p q a b lengths) =
          rw (source_is, light_is, w.lengths_are, w.tree_is) (walked_of_net (length (segments_of a b lengths)) head (own_of head (ratios_of p q)) a b lengths level_at (le_refl _) r.sound x y each_ratio x_at y_at) in
          (rw walked_at at z.count, rw walked_at at z.tree)

  -- the least length of a post
  module _ {dist short : List ℕ} (w : Worked (net_at head p q a b lengths) dist short) (post : ℕ) (h : post < length dist) where
    pub least_at : get_or dist post 0 ≡ at (least_lengths_of every (net_at head p q a b lengths)) post
    least_at = get_d_any dist post 0 none_yet h ∙ ap (λ (l : List ℕ). at l post) w.lengths_are

    -- no least length is above "none yet"
    pub least_small : get_or dist post 0 ≤ none_yet
    least_small =
        let z = least_low (length (segments_of a b lengths)) head (own_of head (ratios_of p q)) a b lengths level_at (le_refl _) r.sound post in
        omega (arith, least_at, z)
