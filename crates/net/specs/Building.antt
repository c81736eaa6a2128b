-- What building and margin answer, and what the lent lists hold afterwards, for every input.
-- The number of segments, m, is given beside the net: an array may hold fewer than are claimed, and 4 looks at the
-- claim. So is the number of ratios that are lent, k: 8 looks at it in both forms.
use Rattle.std.specs.Prelude.{◌≡◌, Bool, cond, List, ◌++◌, ℕ, ◌*◌, ◌≤◌, ◌<◌, eqb, length, drop, ℤ}
use Rattle.std.proofs.Math.Option.{Option, none, some}
use Rattle.net.specs.Net.{Ratio, house, ratio_at, Net}
use Rattle.net.specs.Refusals.{Lent, first, net_lines, lent_lines, room_of_ratios, joined_lines, post_lines}
use Rattle.net.specs.Trees.{at, joined, the_least_lengths, lightest, shortest, the_path_in, radius, whole, the_margin_by}
use Rattle.net.specs.Walk.{Notes, Given, at_start, walk}
use Rattle.net.specs.declared.Form.{Form}
use Rattle.net.specs.declared.Form.TheVariants.{First, Second}
use Rattle.net.specs.declared.Measured.{Measured}
use Rattle.net.specs.declared.Refusal.{Refusal}
use Rattle.net.specs.declared.Tree.{Tree}
use Rattle.net.specs.declared.Tree.TheVariants.{Lightest, Shortest, Between}

-- THE SMALLEST RATIO of n posts but the source s, by cross products: v has it
pub record Smallest (p q : ℕ → ℕ) (n s v : ℕ) : Type 0 where
  pub is_post : v < n
  pub not_source : v ≡ s → ⊥
  pub no_smaller : (u : ℕ) → u < n → (u ≡ s → ⊥) → p v * q u ≤ p u * q v

-- THE RATIO OF A POST. "The house ratio, kept and checked, rules only nets of the first form": in the second it is each
-- post's own. The source has none; at any ratio its path of length 0 is within its limit, and its margin is 0.
abbrev pub ratio_in : Form → Net → ℕ → Ratio
ratio_in First n v = house n.head
ratio_in Second n v = cond (eqb v n.head.source) (house n.head) (ratio_at n.own v)

unfoldable pub ratio_of : Net → ℕ → Ratio
ratio_of n v = ratio_in n.head.form n v

abbrev pub p_of : Net → ℕ → ℕ
p_of n v = (ratio_of n v).p

abbrev pub q_of : Net → ℕ → ℕ
q_of n v = (ratio_of n v).q

-- "the smallest ratio of any post but the source, compared by cross products": v has it
abbrev pub SmallestOf : Net → ℕ → Type 0
SmallestOf n v = Smallest (p_of n) (q_of n) n.head.posts n.head.source v

module _ (ok : ℕ → Bool) (n : Net) where
  -- THE THREE TREES of a net
  unfoldable pub lightest_of : List ℕ
  lightest_of = lightest n.segments ok n.head.posts n.head.source

  -- D
  unfoldable pub least_lengths_of : List ℕ
  least_lengths_of = the_least_lengths n.segments ok n.head.posts n.head.source

  unfoldable pub shortest_of : List ℕ
  shortest_of = shortest n.segments ok n.head.posts n.head.source

  -- the walk over the lightest tree, at a ratio for each post
  unfoldable pub given_with : (ℕ → ℕ) → (ℕ → ℕ) → Given
  given_with p q =
      record {
        segments = n.segments;
        posts = n.head.posts;
        walked = lightest_of;
        shortest = shortest_of;
        D = least_lengths_of;
        p = p;
        q = q;
      }

  -- "Walk the lightest tree from the source."
  unfoldable pub walk_with : (ℕ → ℕ) → (ℕ → ℕ) → Notes
  walk_with p q = walk (given_with p q) n.head.posts n.head.source (at_start n.head.posts n.head.source)

  -- "The walk and the margin use it": each post's own ratio
  unfoldable pub walk_of : Notes
  walk_of = walk_with (p_of n) (q_of n)

  unfoldable pub between_of : List ℕ
  between_of = (walk_of).entries

  unfoldable pub laid_of : List ℕ
  laid_of = (walk_of).laid

  unfoldable pub tree_of : Tree → List ℕ
  tree_of Lightest = lightest_of
  tree_of Shortest = shortest_of
  tree_of Between = between_of

  -- REFUSALS
  unfoldable pub joined_to_source : ℕ → Bool
  joined_to_source v = joined n.segments n.head.posts ok n.head.source v

  -- "Building: 1, 2, 3, 4; then for each segment in turn 5, 6, 7; then 8; then 9", with the posts' 3 after the head's 4
  unfoldable pub build_refusal : ℕ → ℕ → Lent → Option Refusal
  build_refusal m k lent = first (net_lines ok m n ++ (lent_lines n.head.posts lent
      ++ (room_of_ratios n.head.posts k ++ joined_lines n.head.posts joined_to_source)))

  -- "Margin: 1 to 7, then 9, then 19", and after 7 the 8 of the ratios
  unfoldable pub margin_refusal : ℕ → ℕ → ℕ → Option Refusal
  margin_refusal m k post = first (net_lines ok m n ++ (room_of_ratios n.head.posts k
      ++ (joined_lines n.head.posts joined_to_source ++ post_lines n.head.posts post)))

-- ANSWERS. "length and radius of each tree and the count of laid paths", or a refusal
pub data BuildAnswer : Type 0 where
  built : (lightest shortest between : Measured) (laid : ℕ) → BuildAnswer
  refused : Refusal → BuildAnswer

pub data MarginAnswer : Type 0 where
  margin : ℤ → MarginAnswer
  refused : Refusal → MarginAnswer

module _ (ok : ℕ → Bool) (n : Net) where
  -- length and radius of one of the trees
  unfoldable pub measured : Tree → Measured
  measured t =
      record {
        length = whole n.segments n.head.posts (tree_of ok n t);
        radius = radius n.segments n.head.posts (tree_of ok n t);
      }

  unfoldable pub build_answer : Option Refusal → BuildAnswer
  build_answer none = built (measured Lightest) (measured Shortest) (measured Between) (length (laid_of ok n))
  build_answer (some r) = refused r

  -- what building answers
  unfoldable pub build_of : ℕ → ℕ → Lent → BuildAnswer
  build_of m k lent = build_answer (build_refusal ok n m k lent)

  -- a lent list afterwards: the tree's entries, "Entries beyond the post count stay as they were."; after a refusal
  -- "what it held before"
  unfoldable pub list_after : Option Refusal → Tree → List ℕ → List ℕ
  list_after none t l = tree_of ok n t ++ drop n.head.posts l
  list_after (some r) t l = l

  unfoldable pub after_build : ℕ → ℕ → Lent → Tree → List ℕ → List ℕ
  after_build m k lent t l = list_after (build_refusal ok n m k lent) t l

  -- "(p + q) × D minus q × path in the tree", at the post's own ratio
  unfoldable pub the_margin_in : Tree → ℕ → ℤ
  the_margin_in t v = the_margin_by (p_of n v) (q_of n v) (at (least_lengths_of ok n) v)
      (the_path_in n.segments n.head.posts (tree_of ok n t) v)

  unfoldable pub margin_answer : Option Refusal → Tree → ℕ → MarginAnswer
  margin_answer none t v = margin (the_margin_in t v)
  margin_answer (some r) t v = refused r

  -- what margin answers
  unfoldable pub margin_of : ℕ → ℕ → Tree → ℕ → MarginAnswer
  margin_of m k t v = margin_answer (margin_refusal ok n m k v) t v
