-- The tree that is hung by least lengths: what `search` and `hang` leave is `shortest` where lengths count and all segments are present
-- (`shortest_is`). Rests on `Sides` and `Alike`.
use mathlib.Core.Path.{◌≡◌, refl, sym, ap, ◌∙◌}
use mathlib.Core.Bool.{Bool, true, false}
use mathlib.Core.List.{List, ◌++◌}
use Prim.Native.Nat.{ℕ, ◌<◌, ◌≤◌}
use native.Mathlib.Omega.{arith}
use lib.ListN.{length, get_or, take, drop, replicate, length-replicate, get_or-replicate}
use lib.Seq.{length-take-le, get_or-take, take_at}
use Rattle.net.specs.Words.{no_segment}
use Rattle.net.specs.Net.{most_segments, every, segments_of, length_at}
use Rattle.net.specs.Trees.{none_yet, at, least, hung, the_least_lengths, hanging_weight, shortest}
use Rattle.net.specs.declared.Segment.{Segment}
use Rattle.net.proofs.Least.{length_least, least_most}
use Rattle.net.proofs.Hung.{length_hung}
use Rattle.hanging.specs.Lists.{flag, note, Ends, Sides, Low}
use Rattle.net.proofs.Segments.{length_segments, segments_are}
use Rattle.hanging.proofs.Lists.{front_at}
use Rattle.shortest.proofs.Sides.{sides_inside}
use Rattle.shortest.proofs.Alike.{Alike, least_alike, hung_alike}

-- HOW LONG THE LISTS ARE, so that the first n entries of a lent list are the tree or the lengths
pub front_of : (n : ℕ) (g r l : List ℕ) → l ≡ g ++ r → length g ≡ n → take n l ≡ g
front_of n g r l e k = ap (λ (x : List ℕ). take n x) e ∙ take_at g r n k

module _ (segs : List Segment) (ok : ℕ → Bool) (n s : ℕ) where
  pub length_shortest : length segs ≤ no_segment → length (shortest segs ok n s) ≡ n
  unfolding shortest hanging_weight
  length_shortest few = length_hung segs ok (length_at segs) n few (least segs ok (length_at segs) n s)

-- NOTES THAT ARE LEAST LENGTHS
module _ {posts : ℕ} {a b weights : List ℕ} {present : List Bool} (z : Sides posts a b weights present) (s : ℕ) (in-s : s < posts) (l r : List ℕ)
    (e : l ≡ least (segments_of a b weights) (flag present) (note weights) posts s ++ r) where
  many : length (least (segments_of a b weights) (flag present) (note weights) posts s) ≡ posts
  many = length_least (segments_of a b weights) (flag present) (note weights) posts (sides_inside z) s in-s

  -- the first of them
  pub notes_front : take posts l ≡ least (segments_of a b weights) (flag present) (note weights) posts s
  notes_front = front_of posts (least (segments_of a b weights) (flag present) (note weights) posts s) r l e many

  pub notes_at : (v : ℕ) → v < posts → note l v ≡ at (least (segments_of a b weights) (flag present) (note weights) posts s) v
  notes_at = front_at posts (least (segments_of a b weights) (flag present) (note weights) posts s) r l none_yet e many

  -- none is above "none yet"
  pub notes_low : posts ≤ length l → Low posts l
  notes_low h =
      record { many = h; most = λ v k. omega (arith, notes_at v k, least_most (segments_of a b weights) (flag present) (note weights) posts (sides_inside z) s v k) }

-- THE FIRST m OF A LIST OF ONE VALUE: all segments present
pub length_first : {A : Type 0} (n m : ℕ) (x : A) → m ≤ n → length (take m (replicate n x)) ≡ m
length_first n m x h = length-take-le m (replicate n x) (omega (arith, length-replicate n x))

pub first_at : {A : Type 0} (n m : ℕ) (x d : A) → m ≤ n → (i : ℕ) → i < m → get_or (take m (replicate n x)) i d ≡ x
first_at n m x d h i k = get_or-take m (replicate n x) i d k ∙ get_or-replicate n i x d (omega arith)

abbrev pub all_there : ℕ → List Bool
all_there m = take m (replicate most_segments true)

-- ALL SEGMENTS, BY LENGTH
module _ {posts : ℕ} {a b : List ℕ} (lengths : List ℕ) (z : Ends posts a b every) (same : length lengths ≡ length a) where
  pub all_sides : Sides posts a b lengths (all_there (length a))
  all_sides =
      record {
        ends = record { b_many = z.b_many; few = z.few; a_in = λ i h o. z.a_in i h refl; b_in = λ i h o. z.b_in i h refl };
        weights_many = same;
        present_many = length_first most_segments (length a) true z.few;
      }

  all_alike : Alike (segments_of a b lengths) (flag (all_there (length a))) every (note lengths) (length_at (segments_of a b lengths))
  all_alike =
      record {
        ok_same = λ i h. first_at most_segments (length a) true false z.few i (omega (arith, length_segments a b lengths z.b_many same));
        w_same = λ i. sym ((segments_are a b lengths z.b_many same).length_is i);
      }

  all_least : (s : ℕ) → least (segments_of a b lengths) (flag (all_there (length a))) (note lengths) posts s ≡ the_least_lengths (segments_of a b lengths) every posts s
  unfolding the_least_lengths
  all_least s = least_alike all_alike posts s

  all_hung : (s : ℕ)
      → hung (segments_of a b lengths) (flag (all_there (length a))) (note lengths) posts (least (segments_of a b lengths) (flag (all_there (length a))) (note lengths) posts s)
      ≡ shortest (segments_of a b lengths) every posts s
  unfolding shortest hanging_weight
  all_hung s =
      hung_alike all_alike posts (least (segments_of a b lengths) (flag (all_there (length a))) (note lengths) posts s)
      ∙ ap (λ (l : List ℕ). hung (segments_of a b lengths) every (length_at (segments_of a b lengths)) posts l) (least_alike all_alike posts s)

  -- what the two steps leave: D and the shortest tree
  pub shortest_is : (s : ℕ) → s < posts → (d₀ t₀ : List ℕ) {d t : List ℕ}
      → d ≡ least (segments_of a b lengths) (flag (all_there (length a))) (note lengths) posts s ++ drop posts d₀
      → t ≡ hung (segments_of a b lengths) (flag (all_there (length a))) (note lengths) posts (take posts d) ++ drop posts t₀
      → (d ≡ the_least_lengths (segments_of a b lengths) every posts s ++ drop posts d₀) × (t ≡ shortest (segments_of a b lengths) every posts s ++ drop posts t₀)
  shortest_is s in-s d₀ t₀ {d} {t} e f =
      let front = notes_front all_sides s in-s d (drop posts d₀) e in
      let tree_is = ap (λ (x : List ℕ). hung (segments_of a b lengths) (flag (all_there (length a))) (note lengths) posts x) front ∙ all_hung s in
      (e ∙ ap (λ (x : List ℕ). x ++ drop posts d₀) (all_least s), f ∙ ap (λ (x : List ℕ). x ++ drop posts t₀) tree_is)
