-- The third tree of a net: over net's own lightest tree, shortest tree and least lengths the walk in code is net's walk where the lists have each post's ratio (`walked_of_net`), and a net that
-- nothing from 1 to 7 refuses is all that the code asks for, beside lists with a ratio for each post (`net_walkable`). Relies on net's laws of least lengths and of what a walk is owed; `third_tree`'s caller cites both.
use mathlib.Core.Path.{◌≡◌, refl, sym, ◌∙◌}
use mathlib.Core.Bool.{true}
use mathlib.Core.List.{List}
use Prim.Native.Nat.{ℕ, ◌≤◌, ◌<◌}
use native.Mathlib.Omega.{arith}
use native.Mathlib.Decide.{dec_lt}
use lib.ListN.{length, get_or, get_or-eq_default}
use Rattle.net.specs.Words.{no_segment}
use Rattle.net.specs.Net.{Ratio, Net, segments_of, length_at, other, every}
use Rattle.net.specs.Rules.{NetSound}
use Rattle.net.specs.Trees.{none_yet, at, entry, least, the_least_lengths}
use Rattle.net.specs.Walk.{child}
use Rattle.net.specs.Building.{p_of, q_of, lightest_of, shortest_of, least_lengths_of, given_with, walk_with, walk_of}
use Rattle.net.specs.declared.Head.{Head}
use Rattle.net.proofs.Least.{Inside, length_least, least_most, leads_from, leads_to}
use Rattle.net.proofs.Shortest.{length_shortest, shortest_source}
use Rattle.net.proofs.Notes.{Owed}
use Rattle.net.proofs.Tour.{child_leads}
use Rattle.net.proofs.Ratios.{walk_alike}
use Rattle.net.proofs.Sound.{inside, below, few, heavy, g, is_owed}
use Rattle.between.specs.Given.{Low, Level, Lists, Ratios, given_of}
use Rattle.between.specs.Asked.{Upward, Walkable, walked_of}
use Rattle.between.proofs.Lists.{lists_of}

-- the net of a head, of the posts' own ratios and of three lists side by side
abbrev pub net_from : Head → List Ratio → (a b lengths : List ℕ) → Net
net_from head own a b lengths = record { head = head; own = own; segments = segments_of a b lengths }

module _ (m : ℕ) (head : Head) (own : List Ratio) (a b lengths : List ℕ) (level : Level a b lengths) (fits : length (segments_of a b lengths) ≤ m) (sound : NetSound every m (net_from head own a b lengths)) where
  lists : Lists (segments_of a b lengths) a b lengths
  lists = lists_of level

  abbrev N : Net
  N = net_from head own a b lengths

  ends : Inside (segments_of a b lengths) every head.posts
  ends = inside every m (net_from head own a b lengths) fits sound

  pub length_lengths : length (least_lengths_of every (net_from head own a b lengths)) ≡ head.posts
  unfolding least_lengths_of the_least_lengths
  length_lengths = length_least (segments_of a b lengths) every (length_at (segments_of a b lengths)) head.posts ends head.source sound.head_sound.source_in

  length_short : length (shortest_of every (net_from head own a b lengths)) ≡ head.posts
  unfolding shortest_of
  length_short = length_shortest (segments_of a b lengths) every head.posts head.source ends (below every m N fits sound) (few every m N fits sound) (heavy every m N fits sound)

  short_top : entry (shortest_of every (net_from head own a b lengths)) head.source ≡ no_segment
  unfolding shortest_of
  short_top = shortest_source (segments_of a b lengths) every head.posts head.source ends (below every m N fits sound) (few every m N fits sound) (heavy every m N fits sound)

  -- no least length is above "none yet"
  pub least_low : Low (least_lengths_of every (net_from head own a b lengths))
  unfolding least_lengths_of the_least_lengths
  least_low v = elim (dec_lt v head.posts) [
    | yes h ↦ least_most (segments_of a b lengths) every (length_at (segments_of a b lengths)) head.posts ends head.source v h
    | no h ↦
        let L = least (segments_of a b lengths) every (length_at (segments_of a b lengths)) head.posts head.source in
        let e : length L ≡ head.posts = length_least (segments_of a b lengths) every (length_at (segments_of a b lengths)) head.posts ends head.source sound.head_sound.source_in in
        let z : at L v ≡ none_yet = get_or-eq_default L none_yet (omega arith) in
        omega arith
  ]

  -- the way up the shortest tree
  abbrev owes : Owed (g every m (net_from head own a b lengths) fits sound (λ _. head.p) (λ _. head.q)) every head.source
  owes = is_owed every m (net_from head own a b lengths) fits sound (λ _. head.p) (λ _. head.q)

  ways_up : (v : ℕ) → v < length (least_lengths_of every (net_from head own a b lengths)) → (v ≡ head.source → ⊥) → at (least_lengths_of every (net_from head own a b lengths)) v < none_yet
      → Upward a b lengths (shortest_of every (net_from head own a b lengths)) (least_lengths_of every (net_from head own a b lengths)) owes.rank v
  unfolding shortest_of least_lengths_of
  ways_up v h ne k =
      let z = owes.direct v (omega (arith, length_lengths)) ne k in
      record {
        hangs = λ e. omega (arith, e, z.leads.is_segment, owes.few);
        is_post = let y = leads_from owes.inside z.leads z.there in omega (arith, length_lengths);
        noted = omega (arith, z.adds);
        nearer = z.nearer;
      }

  module _ (p q : List ℕ) (ratios : Ratios head.posts p q) where
    -- NOTHING MORE IS ASKED but a ratio for each post
    pub net_walkable : Walkable head.source p q a b lengths (shortest_of every (net_from head own a b lengths)) (least_lengths_of every (net_from head own a b lengths))
    net_walkable =
        record {
          few_posts = omega (arith, length_lengths, sound.head_sound.posts_sound.few_posts);
          posts_are = length_short ∙ sym length_lengths;
          source_in = omega (arith, length_lengths, sound.head_sound.source_in);
          level = level;
          inside = record {
            a_in = λ i h. let y = (sound.segments_sound i (omega (arith, lists.count)) refl).ends_sound.a_in in omega (arith, lists.a_is i, length_lengths);
            b_in = λ i h. let y = (sound.segments_sound i (omega (arith, lists.count)) refl).ends_sound.b_in in omega (arith, lists.b_is i, length_lengths);
          };
          ratios = rw length_lengths ratios;
          d_low = least_low;
          top = short_top;
          rank = owes.rank;
          rank_most = λ v h. let y = owes.rank_most v (omega (arith, length_lengths)) in omega (arith, length_lengths);
          upward = ways_up;
        }

    -- where the lists have each post's ratio, the walk is the net's
    pub walked_of_net : ((v : ℕ) → v < head.posts → get_or p v 0 ≡ p_of (net_from head own a b lengths) v) → ((v : ℕ) → v < head.posts → get_or q v 0 ≡ q_of (net_from head own a b lengths) v)
        → walked_of head.source p q a b lengths (lightest_of every (net_from head own a b lengths)) (shortest_of every (net_from head own a b lengths)) (least_lengths_of every (net_from head own a b lengths))
        ≡ walk_of every (net_from head own a b lengths)
    unfolding walked_of walk_of walk_with given_with
    walked_of_net ep eq =
        rw length_lengths
        (walk_alike (segments_of a b lengths) head.posts (lightest_of every (net_from head own a b lengths)) (shortest_of every (net_from head own a b lengths)) (least_lengths_of every (net_from head own a b lengths))
        (λ v. get_or p v 0) (λ v. get_or q v 0) (p_of (net_from head own a b lengths)) (q_of (net_from head own a b lengths)) (λ v. v < head.posts) (λ v h x y. rw (ep v h, eq v h)) children_in head.posts head.source _ sound.head_sound.source_in)
      where
        children_in : (v i : ℕ) → i < length (segments_of a b lengths)
            → child (given_of head.posts p q a b lengths (lightest_of every (net_from head own a b lengths)) (shortest_of every (net_from head own a b lengths)) (least_lengths_of every (net_from head own a b lengths))) v i ≡ true
            → other (segments_of a b lengths) i v < head.posts
        children_in v i h e = leads_to ends (child_leads (given_of head.posts p q a b lengths (lightest_of every (net_from head own a b lengths)) (shortest_of every (net_from head own a b lengths)) (least_lengths_of every (net_from head own a b lengths))) v i h e) refl
