-- THE MOVED NET BUILDS ALIKE: where every post has the house ratio, a net in either form has the same three trees (`tree_moved`), the same answer and the same lists of building (`build_moved`, `after_moved`)
-- and the same margins (`margin_moved`). Relies on net's `walk_alike`: two walks whose tests agree at the posts are one walk.
use mathlib.Core.Path.{◌≡◌, refl, sym, ap, ◌∙◌}
use mathlib.Core.Bool.{Bool, true, false, cond}
use mathlib.Core.List.{List, ◌++◌}
use mathlib.Core.Option.{Option, none, some}
use Prim.Native.Nat.{ℕ, ◌+◌, ◌*◌, ◌<◌}
use native.Mathlib.Omega.{arith}
use native.Mathlib.Decide.{ℕ_discrete}
use lib.Dec.{eqb, ltb}
use Rattle.net.specs.Net.{Ratio, house, Net, every, nth_segment, other}
use Rattle.net.specs.Refusals.{Line, Lent, first}
use Rattle.net.specs.Rules.{NetSound, SegmentSound, MarginRule}
use Rattle.net.specs.Trees.{at, the_path_in, the_margin_by}
use Rattle.net.specs.Building.{ratio_of, p_of, q_of, lightest_of, least_lengths_of, shortest_of, given_with, walk_with, walk_of, between_of, laid_of, tree_of, joined_to_source, build_refusal, measured, build_answer, build_of, list_after, after_build, margin_refusal, the_margin_in, margin_answer, margin_of}
use Rattle.net.specs.declared.Form.{Form}
use Rattle.net.specs.declared.Form.TheVariants.{First, Second}
use Rattle.net.specs.declared.Refusal.{Refusal}
use Rattle.net.specs.declared.Segment.{Segment}
use Rattle.net.specs.declared.Tree.{Tree}
use Rattle.net.specs.declared.Tree.TheVariants.{Lightest, Shortest, Between}
use Rattle.net.proofs.Own.{ratio_house, ratio_own, ratio_source}
use Rattle.net.proofs.Ratios.{walk_alike}
use Rattle.net.proofs.Faults.{sound_first}
use Rattle.net.proofs.Refusals.{margin_answers}
use Rattle.net.proofs.Tables.{FirstOf, first_of, first_only, none_append}
use Rattle.reading.proofs.RoundTrip.{Kept}
use Rattle.moves.specs.Moves.{in_form}
use Rattle.moves.specs.Rules.{AllHouse}
use Rattle.moves.proofs.Forms.{moved_kept, moved_house, moved_sound}

-- where every post has the house ratio, the ratio of every post is the house ratio
pub ratio_is_house : (n : Net) → Kept n → AllHouse n → (v : ℕ) → v < n.head.posts → ratio_of n v ≡ house n.head
ratio_is_house n k all v h = by_form n.head.form refl
  where
    by_form : (f : Form) → n.head.form ≡ f → ratio_of n v ≡ house n.head
    by_form First e = ratio_house n e v
    by_form Second e = elim (ℕ_discrete v n.head.source) [
      | yes x ↦ rw x (ratio_source n)
      | no ne ↦ ratio_own n e v ne ∙ all v (omega (arith, k.second_all e)) ne
    ]

-- the other end of a segment is a post
other_in : (segs : List Segment) (posts i v : ℕ) → SegmentSound posts (nth_segment segs i) → other segs i v < posts
other_in segs posts i v s = go (eqb (nth_segment segs i).a v)
  where
    go : (b : Bool) → cond b (nth_segment segs i).b (nth_segment segs i).a < posts
    go true = s.ends_sound.b_in
    go false = s.ends_sound.a_in

-- behind tables that give nothing, the same table gives the same
rest_alike : {a b : List Line} (rest : List Line) → FirstOf a none → FirstOf b none → first (a ++ rest) ≡ first (b ++ rest)
rest_alike rest x y = sym (first_only (none_append x (first_of rest))) ∙ first_only (none_append y (first_of rest))

module _ (f : Form) (n : Net) (m : ℕ) (sound : NetSound every m n) (k : Kept n) (all : AllHouse n) where
  ratio_moved : (v : ℕ) → v < n.head.posts → ratio_of (in_form f n) v ≡ ratio_of n v
  unfolding in_form
  ratio_moved v h = ratio_is_house (in_form f n) (moved_kept f n) (moved_house f n) v h ∙ sym (ratio_is_house n k all v h)

  walk_moved : walk_of every (in_form f n) ≡ walk_of every n
  unfolding in_form walk_of walk_with given_with lightest_of shortest_of least_lengths_of
  walk_moved =
      walk_alike n.segments n.head.posts (lightest_of every n) (shortest_of every n) (least_lengths_of every n) (p_of (in_form f n)) (q_of (in_form f n)) (p_of n) (q_of n)
      (λ v. v < n.head.posts) (λ v h x y. ap (λ (r : Ratio). ltb ((r.p + r.q) * x) (r.q * y)) (ratio_moved v h)) (λ v i l _. other_in n.segments n.head.posts i v (sound.segments_sound i l refl)) n.head.posts n.head.source _ sound.head_sound.source_in

  -- the same three trees
  pub tree_moved : (t : Tree) → tree_of every (in_form f n) t ≡ tree_of every n t
  unfolding in_form tree_of between_of lightest_of shortest_of
  tree_moved Lightest = refl
  tree_moved Shortest = refl
  tree_moved Between = ap (λ w. w.entries) walk_moved

  -- the same laid posts
  pub laid_moved : laid_of every (in_form f n) ≡ laid_of every n
  unfolding laid_of
  laid_moved = ap (λ w. w.laid) walk_moved

  refusal_moved : (j : ℕ) (lent : Lent) → build_refusal every (in_form f n) m j lent ≡ build_refusal every n m j lent
  unfolding in_form build_refusal joined_to_source
  refusal_moved j lent = rest_alike _ (sound_first every m (in_form f n) (moved_sound f n m sound)) (sound_first every m n sound)

  measured_moved : (t : Tree) → measured every (in_form f n) t ≡ measured every n t
  unfolding in_form measured
  measured_moved t = simp (tree_moved t)

  -- BUILDING answers alike
  pub build_moved : (j : ℕ) (lent : Lent) → build_of every (in_form f n) m j lent ≡ build_of every n m j lent
  unfolding build_of build_answer
  build_moved j lent = rw (refusal_moved j lent) (go (build_refusal every n m j lent))
    where
      go : (o : Option Refusal) → build_answer every (in_form f n) o ≡ build_answer every n o
      go none = rw (measured_moved Lightest, measured_moved Shortest, measured_moved Between, laid_moved)
      go (some r) = refl

  -- and leaves the lists alike
  pub after_moved : (j : ℕ) (lent : Lent) (t : Tree) (l : List ℕ) → after_build every (in_form f n) m j lent t l ≡ after_build every n m j lent t l
  unfolding in_form after_build list_after
  after_moved j lent t l = rw (refusal_moved j lent) (go (build_refusal every n m j lent))
    where
      go : (o : Option Refusal) → list_after every (in_form f n) o t l ≡ list_after every n o t l
      go none = rw (tree_moved t)
      go (some r) = refl

  -- MARGIN answers alike: it is given only for a post
  margin_refused : (j v : ℕ) → margin_refusal every (in_form f n) m j v ≡ margin_refusal every n m j v
  unfolding in_form margin_refusal joined_to_source
  margin_refused j v = rest_alike _ (sound_first every m (in_form f n) (moved_sound f n m sound)) (sound_first every m n sound)

  margin_at : (t : Tree) (v : ℕ) → v < n.head.posts → the_margin_in every (in_form f n) t v ≡ the_margin_in every n t v
  unfolding in_form the_margin_in least_lengths_of
  margin_at t v h =
      ap (λ (l : List ℕ). the_margin_by (p_of (in_form f n) v) (q_of (in_form f n) v) (at (least_lengths_of every n) v) (the_path_in n.segments n.head.posts l v)) (tree_moved t)
      ∙ ap (λ (r : Ratio). the_margin_by r.p r.q (at (least_lengths_of every n) v) (the_path_in n.segments n.head.posts (tree_of every n t) v)) (ratio_moved v h)

  pub margin_moved : (j : ℕ) (t : Tree) (v : ℕ) → margin_of every (in_form f n) m j t v ≡ margin_of every n m j t v
  unfolding margin_of margin_answer
  margin_moved j t v = rw (margin_refused j v) (go (margin_refusal every n m j v) (margin_answers every m n j v))
    where
      go : (o : Option Refusal) → MarginRule every m n j v o → margin_answer every (in_form f n) o t v ≡ margin_answer every n o t v
      go none (MarginRule.nothing z i a h) = rw (margin_at t v h)
      go (some r) x = refl
