-- The ways out of building: refused by 1 to 7, by 8, by 9, or built. Each says what is left of the answer and of the three lists.
use mathlib.Core.Path.{◌≡◌, sym, ap, ◌∙◌}
use mathlib.Core.List.{List, ◌++◌}
use mathlib.Core.Logic.{◌⊎◌, inr}
use mathlib.Core.Option.{Option, none, some}
use Prim.Native.Nat.{ℕ, ◌≤◌, ◌<◌}
use native.Mathlib.Omega.{arith}
use native.Mathlib.Nat.{le_refl}
use borrow.Author.Tests.{le-ltb}
use lib.ListN.{length, drop, take}
use lib.Seq.{take_all}
use mathlib.Core.Bool.{false, ◌||◌}
use lib.Dec.{ltb}
use Rattle.net.specs.Net.{Net, every, ratios_of, segments_of}
use Rattle.net.specs.Refusals.{Lent, refusal, first, lent_lines, joined_lines, room_of_ratios, checked_of, check_of}
use Rattle.checks.proofs.Ways.{unrated}
use Rattle.net.specs.Rules.{TooShort, AllJoined, BuildRule}
use Rattle.net.specs.Rules as R
use Rattle.net.specs.Trees.{whole, radius, IsTree}
use Rattle.net.specs.Building.{p_of, q_of, lightest_of, shortest_of, walk_of, between_of, tree_of, joined_to_source, build_refusal, measured, build_answer, build_of, list_after, after_build}
use Rattle.net.specs.declared.Head.{Head}
use Rattle.net.specs.declared.Measured.{Measured}
use Rattle.net.specs.declared.Refusal.{Refusal}
use Rattle.net.specs.Refusals.{Checked}
use Rattle.net.specs.declared.Tree.TheVariants.{Lightest, Shortest, Between}
use Rattle.net.proofs.Tables.{FirstOf, below, end, first_only, first_is, none_append}
use Rattle.net.proofs.Faults.{sound_first}
use Rattle.net.proofs.Refusals.{build_only, accepted}
use Rattle.net.proofs.Checks.{check_faulty}
use Rattle.net.proofs.Sound.{lightest_tree, shortest_tree, between_tree}
use Rattle.hanging.specs.Paths.{Listed}
use Rattle.hanging.proofs.Paths.{tree_rooted}
use Rattle.net.specs.Ready.{net_at, Ready}
use Rattle.net.proofs.Ready.{ready_few, ready_posts, ready_inside}
use Rattle.trees.specs.Worked.{LeftJoined}
use Rattle.trees.proofs.Ratios.{room_none}
use Rattle.trees.proofs.Ready.{ready_short}
use Rattle.building.specs.Answers.{measured_in, TreeOf, lent_of, answer_of, Leaves}
use Rattle.std.specs.Prelude.{Err}
use Rattle.building.specs.Answers.{Answer, measures, done}

-- what is left where nothing is refused
record BuiltAll (n : Net) (l s w : List ℕ) (r : Answer) (l' s' w' : List ℕ) : Type 0 where
  pub answer : r ≡ answer_of (build_answer every n none)
  pub lightest : l' ≡ list_after every n none Lightest l
  pub shortest : s' ≡ list_after every n none Shortest s
  pub between : w' ≡ list_after every n none Between w

module _ (n : Net) (m k : ℕ) (l s w : List ℕ) where
  -- "after a refusal .. what it held before"
  leaves_refused : {r : Refusal} → some r ≡ build_refusal every n m k (lent_of l s w) → Leaves n m k l s w (Err r) l s w
  unfolding build_of build_answer after_build list_after
  leaves_refused e = record { answer = rw (← e); lightest = rw (← e); shortest = rw (← e); between = rw (← e) }

  leaves_built : {r : Answer} {l' s' w' : List ℕ} → none ≡ build_refusal every n m k (lent_of l s w) → BuiltAll n l s w r l' s' w' → Leaves n m k l s w r l' s' w'
  unfolding build_of after_build
  leaves_built e z = record { answer = rw (← e) z.answer; lightest = rw (← e) z.lightest; shortest = rw (← e) z.shortest; between = rw (← e) z.between }

-- 8 does not hold
lent_none : (posts : ℕ) (lent : Lent) → posts ≤ lent.lightest → posts ≤ lent.shortest → posts ≤ lent.between → FirstOf (lent_lines posts lent) none
unfolding lent_lines
lent_none posts lent h k g =
    let e : (ltb lent.lightest posts || ltb lent.shortest posts || ltb lent.between posts) ≡ false = rw (le-ltb _ _ h, le-ltb _ _ k, le-ltb _ _ g) in
    below e end

-- THE TREES of a net whose posts are all joined; that they are trees has nothing to do with ratios
module _ {head : Head} {p q a b lengths : List ℕ} (r : Ready head p q a b lengths) (j : AllJoined every (net_at head p q a b lengths)) where
  tree_of_law : {t : List ℕ} {path : ℕ → ℕ} → IsTree (segments_of a b lengths) every head.posts head.source t path → TreeOf (net_at head p q a b lengths) t
  tree_of_law {t} z =
      record { one_each = z.one_each; rooted = tree_rooted (segments_of a b lengths) every head.posts head.source t (ready_inside r) (omega (arith, r.sound.few_segments)) z }

  lightest_of_law : {t : List ℕ} → t ≡ lightest_of every (net_at head p q a b lengths) → TreeOf (net_at head p q a b lengths) t
  lightest_of_law e = rw e (tree_of_law (lightest_tree every _ (net_at head p q a b lengths) (le_refl _) r.sound j))

  shortest_of_law : {t : List ℕ} → t ≡ shortest_of every (net_at head p q a b lengths) → TreeOf (net_at head p q a b lengths) t
  shortest_of_law e = rw e (tree_of_law (shortest_tree every _ (net_at head p q a b lengths) (le_refl _) r.sound j))

  between_of_law : {t : List ℕ} → t ≡ between_of every (net_at head p q a b lengths) → TreeOf (net_at head p q a b lengths) t
  unfolding between_of walk_of
  between_of_law e = rw e (tree_of_law (between_tree every _ (net_at head p q a b lengths) (le_refl _) r.sound j (p_of (net_at head p q a b lengths)) (q_of (net_at head p q a b lengths))))

-- THE ANSWER put together: the trees, what they measure, and the lists they are put into
built_all : {n : Net} {laid : ℕ} {light short third : List ℕ} → LeftJoined n laid light short third → {r : Answer} (l s w : List ℕ) {l' s' w' : List ℕ}
    → r ≡ done (measured_in n light) (measured_in n short) (measured_in n third) laid
    → length light ≡ n.head.posts → length short ≡ n.head.posts → length third ≡ n.head.posts
    → l' ≡ light ++ drop (length light) l → s' ≡ short ++ drop (length short) s → w' ≡ third ++ drop (length third) w
    → BuiltAll n l s w r l' s' w'
unfolding build_answer measured tree_of list_after
built_all t l s w e i j k f g h =
    record {
      answer = e ∙ rw (t.laid_is, t.trees.light_is, t.trees.short_is, t.trees.third_is);
      lightest = rw (i, t.trees.light_is) at f;
      shortest = rw (j, t.trees.short_is) at g;
      between = rw (k, t.trees.third_is) at h;
    }

-- two lists of ratios side by side, and three of segments
module _ (head : Head) (p q a b lengths l s w : List ℕ) where
  -- 1 to 7
  pub leaves_faulty : {v : Checked} {r : Refusal} → v ≡ check_of head (ratios_of p q) (segments_of a b lengths) → v ≡ Err r
      → Leaves (net_at head p q a b lengths) (length (segments_of a b lengths)) (length (ratios_of p q)) l s w (Err r) l s w
  leaves_faulty e f =
      leaves_refused _ _ _ l s w (build_only every _ (net_at head p q a b lengths) (length (ratios_of p q)) (lent_of l s w) (R.BuildRule.one_to_seven ((check_faulty head (ratios_of p q) (segments_of a b lengths)).0 (sym e ∙ f))))

  module _ (r : Ready head p q a b lengths) where
    -- 8
    pub leaves_short : TooShort (net_at head p q a b lengths) (lent_of l s w) ⊎ (length (ratios_of p q) < head.posts) → {x : Answer} → x ≡ Err (refusal 8 0) → Leaves (net_at head p q a b lengths) (length (segments_of a b lengths)) (length (ratios_of p q)) l s w x l s w
    leaves_short h e = rw e (leaves_refused _ _ _ l s w (build_only every _ (net_at head p q a b lengths) (length (ratios_of p q)) (lent_of l s w) (R.BuildRule.eight r.sound h)))

    -- of the ratios, as `rated` says
    pub leaves_unrated : {v : Checked} {e : Refusal} → v ≡ checked_of (first (room_of_ratios head.posts (length (ratios_of p q)))) → v ≡ Err e → {x : Answer} → x ≡ Err e
        → Leaves (net_at head p q a b lengths) (length (segments_of a b lengths)) (length (ratios_of p q)) l s w x l s w
    leaves_unrated f i u = let z = unrated head.posts (length (ratios_of p q)) f i in leaves_short (inr z.0) (u ∙ ap Err z.1)

    -- 9, or nothing: what the posts in turn give is what the whole table gives
    module _ (h : head.posts ≤ length l) (k : head.posts ≤ length s) (g : head.posts ≤ length w) (f : head.posts ≤ length (ratios_of p q)) where
      joined_left : {o : Option Refusal} → first (joined_lines head.posts (joined_to_source every (net_at head p q a b lengths))) ≡ o
          → o ≡ build_refusal every (net_at head p q a b lengths) (length (segments_of a b lengths)) (length (ratios_of p q)) (lent_of l s w)
      unfolding build_refusal
      joined_left e = first_only (none_append (sound_first every _ (net_at head p q a b lengths) r.sound)
          (none_append (lent_none head.posts (lent_of l s w) h k g) (none_append (room_none head.posts (length (ratios_of p q)) f) (first_is e))))

      -- 9, "lowest such post"
      pub leaves_apart : {v : ℕ} → first (joined_lines head.posts (joined_to_source every (net_at head p q a b lengths))) ≡ some (refusal 9 v) → {x : Answer} → x ≡ Err (refusal 9 v)
          → Leaves (net_at head p q a b lengths) (length (segments_of a b lengths)) (length (ratios_of p q)) l s w x l s w
      leaves_apart e u = rw u (leaves_refused _ _ _ l s w (joined_left e))

      -- every post is joined
      module _ {laid : ℕ} {light short third : List ℕ} (t : LeftJoined (net_at head p q a b lengths) laid light short third) where
        all_joined : AllJoined every (net_at head p q a b lengths)
        all_joined = ((accepted every _ (net_at head p q a b lengths) (length (ratios_of p q)) (lent_of l s w)).0 (sym (joined_left t.none_apart))).3

        pub trees_of : TreeOf (net_at head p q a b lengths) light × TreeOf (net_at head p q a b lengths) short × TreeOf (net_at head p q a b lengths) third
        trees_of = (lightest_of_law r all_joined t.trees.light_is, shortest_of_law r all_joined t.trees.short_is, between_of_law r all_joined t.trees.third_is)

        pub leaves_joined : {x : Answer} {l' s' w' : List ℕ}
            → x ≡ done (measured_in (net_at head p q a b lengths) light) (measured_in (net_at head p q a b lengths) short) (measured_in (net_at head p q a b lengths) third) laid
            → length light ≡ head.posts → length short ≡ head.posts → length third ≡ head.posts
            → (l' ≡ light ++ drop (length light) l) × (s' ≡ short ++ drop (length short) s) × (w' ≡ third ++ drop (length third) w)
            → Leaves (net_at head p q a b lengths) (length (segments_of a b lengths)) (length (ratios_of p q)) l s w x l' s' w'
        leaves_joined e i j n u = leaves_built _ _ _ l s w (joined_left t.none_apart) (built_all t l s w e i j n u.0 u.1 u.2)

-- what `radius_of` asks of one
pub listed_at : {head : Head} {p q a b lengths : List ℕ} → Ready head p q a b lengths → {posts : ℕ} → posts ≡ head.posts → {t : List ℕ} → TreeOf (net_at head p q a b lengths) t → Listed posts a b lengths t
listed_at r {posts} posts-is {t} z =
    let k : take posts t ≡ t = take_all posts t (omega (arith, z.one_each)) in
    record {
      few_posts = omega (arith, ready_posts r);
      entries = omega (arith, z.one_each);
      few = ready_few r;
      b_many = r.b_level;
      lengths_many = r.lengths_level;
      short = ready_short r;
      rooted = rw (k, posts-is) z.rooted;
    }

-- length and radius of a tree that has an entry for each post; posts is the head's as an index
pub measured_at : {head : Head} {p q a b lengths : List ℕ} → Ready head p q a b lengths → {posts : ℕ} → posts ≡ head.posts → (t : List ℕ) → length t ≡ head.posts → {x y : ℕ}
    → ((a b : List ℕ) → length a ≡ length lengths → length b ≡ length lengths → x ≡ whole (segments_of a b lengths) posts (take posts t))
    → y ≡ radius (segments_of a b lengths) posts (take posts t) → ◌≡◌ {A = Measured} (record { length = x; radius = y }) (measured_in (net_at head p q a b lengths) t)
measured_at {head} {a = a} {b = b} {lengths = lengths} r {posts} posts-is t k {x} {y} f e =
    let z : take posts t ≡ t = take_all posts t (omega arith) in
    let ex : x ≡ whole (segments_of a b lengths) head.posts t = f a b (sym r.lengths_level) (r.b_level ∙ sym r.lengths_level) ∙ rw (z, posts-is) in
    let ey : y ≡ radius (segments_of a b lengths) head.posts t = e ∙ rw (z, posts-is) in
    rw (ex, ey)

-- an answer from three measures
pub built_of : {x x' y y' z z' : Measured} {laid : ℕ} → x ≡ x' → y ≡ y' → z ≡ z' → measures x y z laid ≡ measures x' y' z' laid
built_of e f g = rw (e, f, g)
