-- MARKS of the segments that belong: what passing one segment does to the parts (`Passed`), and what is marked once all
-- are passed in order (`Marking`). A net is given as lists side by side; `present` says which of its segments are
-- there. Rests on Order, Parts and `net`'s definitions.
use Rattle.std.specs.Prelude.{◌≡◌, Bool, true, false, List, ℕ, ◌<◌, ◌≤◌, length, get_or}
use Rattle.net.specs.Words.{no_segment}
use Rattle.net.specs.Net.{segments_of}
use Rattle.net.specs.Trees.{belonging}
use Rattle.lightest.specs.Order.{length_in, InOrder}
use Rattle.lightest.specs.Parts.{share, JoinedParts}

-- segment i is there
abbrev pub there : List Bool → ℕ → Bool
there present i = get_or present i false

-- lists of ends and of presence side by side, and the ends of every segment that is there below n
pub record Ends (n : ℕ) (a b : List ℕ) (present : List Bool) : Type 0 where
  pub one_b : length b ≡ length a
  pub one_present : length present ≡ length a
  pub a_in : (i : ℕ) → there present i ≡ true → get_or a i 0 < n
  pub b_in : (i : ℕ) → there present i ≡ true → get_or b i 0 < n

-- segment i is passed, and r says whether it joined two parts: it is not there; it lies within one part; it joined two,
-- which are one now
pub data Passed (a b : List ℕ) (present : List Bool) (i : ℕ) (old new : List ℕ) (r : Bool) : Type 0 where
  absent : there present i ≡ false → new ≡ old → r ≡ false → Passed a b present i old new r
  within : there present i ≡ true → share old (get_or a i 0) (get_or b i 0) ≡ true → new ≡ old → r ≡ false
      → Passed a b present i old new r
  joins : there present i ≡ true → share old (get_or a i 0) (get_or b i 0) ≡ false
      → JoinedParts old (get_or a i 0) (get_or b i 0) new → r ≡ true
      → Passed a b present i old new r

-- a net as lists side by side, with the ends of the segments that are there among its n posts, and numbers that fit 16
-- bits
pub record Fit (n : ℕ) (a b lengths : List ℕ) (present : List Bool) : Type 0 where
  pub few_posts : n ≤ no_segment
  pub few_segments : length lengths ≤ no_segment
  pub one_a : length a ≡ length lengths
  pub ends : Ends n a b present

-- the marks are those of the belonging segments, for whatever lengths the numbers are in order
abbrev pub Marking : ℕ → List ℕ → List ℕ → List Bool → List ℕ → List Bool → Type 0
Marking n a b present numbers marks =
    (lengths : List ℕ) → Fit n a b lengths present → InOrder (length_in lengths) (length lengths) numbers → marks
    ≡ belonging (segments_of a b lengths) (there present) n

-- what marking starts from: a mark for each segment, numbers of segments, and lists lent to work in, with an entry for
-- each post; each of the counts is 1
pub record Markable (a b : List ℕ) (present : List Bool) (numbers labels next counts : List ℕ) (marks : List Bool)
    : Type 0 where
  pub ends : Ends (length labels) a b present
  pub few_posts : length labels ≤ no_segment
  pub one_next : length next ≡ length labels
  pub one_count : length counts ≡ length labels
  pub all_one : (x : ℕ) → x < length labels → get_or counts x 0 ≡ 1
  pub one_mark : length marks ≡ length a
  pub are_segments : (k : ℕ) → k < length numbers → get_or numbers k 0 < length a
