-- How the code holds what `net` speaks of: the segments as three lists side by side, the notes as two lists with the
-- laid paths counted beside them, the parents in the shortest tree and the limits as lists. Relies on net's specs/Net
-- and specs/Walk; every contract of the crate cites it.
use Rattle.std.specs.Prelude.{◌≡◌, cond, List, [], ℕ, ◌+◌, ◌*◌, ◌/◌, ◌≤◌, ◌<◌, eqb, length, get_or}
use Rattle.net.specs.Words.{tab}
use Rattle.net.specs.Net.{segments_of, nth_segment, length_at, most_ratio}
use Rattle.net.specs.Trees.{none_yet, at, entry}
use Rattle.net.specs.Walk.{Notes, Given}
use Rattle.net.specs.declared.Segment.{Segment}

-- NOTES. The notes d and the entries of the posts, no path being laid yet
abbrev pub notes_of : List ℕ → List ℕ → Notes
notes_of d entries = record { d = d; entries = entries; laid = [] }

-- d and entries are those of the notes n, whose laid paths are `laid` in number
pub record Shows (n : Notes) (d entries : List ℕ) (laid : ℕ) : Type 0 where
  pub notes : n.d ≡ d
  pub hung : n.entries ≡ entries
  pub counted : length n.laid ≡ laid

-- no note is above "none yet"
abbrev pub Low : List ℕ → Type 0
Low d = (v : ℕ) → at d v ≤ none_yet

-- SEGMENTS. Three lists of one length, with an end, the other end and the length of each segment
pub record Level (a b lengths : List ℕ) : Type 0 where
  pub b_level : length b ≡ length a
  pub lengths_level : length lengths ≡ length a

-- every end is one of n posts
pub record EndsIn (n : ℕ) (a b : List ℕ) : Type 0 where
  pub a_in : (i : ℕ) → i < length a → get_or a i 0 < n
  pub b_in : (i : ℕ) → i < length a → get_or b i 0 < n

-- the lists read as the segments do, at every number
pub record Lists (segs : List Segment) (a b lengths : List ℕ) : Type 0 where
  pub count : length segs ≡ length a
  pub a_is : (i : ℕ) → (nth_segment segs i).a ≡ get_or a i 0
  pub b_is : (i : ℕ) → (nth_segment segs i).b ≡ get_or b i 0
  pub lengths_is : (i : ℕ) → length_at segs i ≡ get_or lengths i 0

-- TABLES. The other end of segment i, which has an end at v
abbrev pub the_end_beyond : (a b : List ℕ) → ℕ → ℕ → ℕ
the_end_beyond a b i v = cond (eqb (get_or a i 0) v) (get_or b i 0) (get_or a i 0)

-- the parents of all posts in a tree
abbrev pub parents_by : (a b tree : List ℕ) → List ℕ
parents_by a b tree = tab (length tree) (λ v. the_end_beyond a b (entry tree v) v)

-- the greatest note within the ratio p/q of a least length; those of all posts
abbrev pub limit_by : (p q least : ℕ) → ℕ
limit_by p q least = (p + q) * least / q

abbrev pub limits_by : (p q dist : List ℕ) → List ℕ
limits_by p q dist = tab (length dist) (λ v. limit_by (get_or p v 0) (get_or q v 0) (at dist v))

-- RATIOS. Two lists have a ratio within the bounds for each of n posts
pub record Ratios (n : ℕ) (p q : List ℕ) : Type 0 where
  pub p_long : n ≤ length p
  pub q_long : n ≤ length q
  pub p_most : (v : ℕ) → v < n → get_or p v 0 ≤ most_ratio
  pub q_most : (v : ℕ) → v < n → get_or q v 0 ≤ most_ratio
  pub q_some : (v : ℕ) → v < n → 0 < get_or q v 0

-- WHAT THE WALK IS GIVEN, as plain lists, a ratio for each post
abbrev pub given_of : (posts : ℕ) (p q a b lengths walked shortest dist : List ℕ) → Given
given_of posts p q a b lengths walked shortest dist =
    record {
      segments = segments_of a b lengths;
      posts = posts;
      walked = walked;
      shortest = shortest;
      D = dist;
      p = λ v. get_or p v 0;
      q = λ v. get_or q v 0;
    }
