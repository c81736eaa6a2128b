-- Least lengths; the lightest and the shortest tree; what a tree list says: entries, parents, paths, radius and whole
-- length. Over a part of a net that `ok` picks and, where it matters, over what a segment counts for, `w`.
use Rattle.std.specs.Prelude.{◌≡◌, Bool, true, false, not, ◌&&◌, cond, List, ℕ, zero, suc, ◌+◌, ◌*◌, ◌≤◌, ◌<◌, eqb, ltb, length, get_or, ℤ}
use Rattle.std.proofs.Math.IntN.{sub_ℕ}
use Rattle.net.specs.Words.{each, only, tab, counted, sum, largest, any, AllOf, least_of, lowest, no_segment}
use Rattle.net.specs.Net.{nth_segment, length_at, touches, other, before, Before, Leads, Route, Chain, weigh}
use Rattle.net.specs.declared.Segment.{Segment}

-- "none yet", which is larger than any length, and stays so through any ratio: 1 × none_yet is greater than (10,000 + 1)
-- × 267,386,625
abbrev pub none_yet : ℕ
none_yet = 281474976710656

-- what a list of lengths or notes says of post v
abbrev pub at : List ℕ → ℕ → ℕ
at l v = get_or l v none_yet

-- LEAST LENGTHS, and hanging by them
module _ (segs : List Segment) (ok : ℕ → Bool) (w : ℕ → ℕ) where
  -- x is what some route from s to v comes to, and no route comes to less
  pub record IsLeast (s v x : ℕ) : Type 0 where
    pub is : List ℕ
    pub route : Route segs ok s is v
    pub comes_to : weigh w is ≡ x
    pub no_less : (js : List ℕ) → Route segs ok s js v → x ≤ weigh w js

  -- i leads to v from some u with l(u) plus what i counts for equal to l(v)
  abbrev pub fits : List ℕ → ℕ → ℕ → Bool
  fits l v i = ok i && touches segs i v && eqb (at l (other segs i v) + w i) (at l v)

  -- v hangs by i, the lowest-numbered of the segments that fit, said as a rule
  pub record HangsBy (l : List ℕ) (v i : ℕ) : Type 0 where
    pub there : ok i ≡ true
    pub leads : Leads segs i (other segs i v) v
    pub adds : at l (other segs i v) + w i ≡ at l v
    pub lowest_fit : (j : ℕ) → j < i → Leads segs j (other segs j v) v → ok j ≡ true → at l (other segs j v) + w j
        ≡ at l v → ⊥

-- the same computed; n is the number of posts
module _ (segs : List Segment) (ok : ℕ → Bool) (w : ℕ → ℕ) (n : ℕ) where
  -- v takes the least of what it has and of what a segment offers it
  unfoldable pub better : List ℕ → ℕ → ℕ
  better l v = least_of (length segs) (λ i. ok i && touches segs i v) (λ i. at l (other segs i v) + w i) (at l v)

  -- each post does so once
  unfoldable pub round : List ℕ → List ℕ
  round l = tab n (better l)

  -- after n rounds: for each post what the least route from s comes to, and "none yet" where there is no route
  unfoldable pub least : ℕ → List ℕ
  least s = each n (λ _ l. round l) (tab n (λ v. cond (eqb v s) 0 none_yet))

  -- each post by the lowest-numbered segment that fits, and by none where none does
  unfoldable pub hung : List ℕ → List ℕ
  hung l = tab n (λ v. lowest (length segs) (fits segs ok w l v))

-- each segment counted as 1
abbrev pub one : ℕ → ℕ
one i = 1

module _ (segs : List Segment) (n : ℕ) where
  -- the fewest segments on any route from s to each post
  unfoldable pub fewest : (ℕ → Bool) → ℕ → List ℕ
  fewest ok s = least segs ok one n s

  -- a chain of segments that are there joins u and v
  unfoldable pub joined : (ℕ → Bool) → ℕ → ℕ → Bool
  joined ok u v = ltb (at (fewest ok u) v) none_yet

  -- segments hung from s: each post by one that leads one step nearer to s
  unfoldable pub hung_from : ℕ → (ℕ → Bool) → List ℕ
  hung_from s ok = hung segs ok one n (fewest ok s)

-- what a segment counts for where the shortest tree is hung: its length
unfoldable pub hanging_weight : List Segment → ℕ → ℕ
hanging_weight segs i = length_at segs i

module _ (segs : List Segment) (ok : ℕ → Bool) (n : ℕ) where
  -- LIGHTEST. "A segment belongs exactly if no chain of segments before it in that order joins its ends."
  abbrev pub earlier : ℕ → ℕ → Bool
  earlier i j = ok j && before segs j i

  unfoldable pub belongs : ℕ → Bool
  belongs i = ok i && not (joined segs n (earlier i) (nth_segment segs i).a (nth_segment segs i).b)

  -- the same said as a rule: no route of segments that all stand before it leads from one end to the other
  pub record Belongs (i : ℕ) : Type 0 where
    pub there : ok i ≡ true
    pub apart : {is : List ℕ} → AllOf (λ j. Before segs j i) is
        → Route segs ok (nth_segment segs i).a is (nth_segment segs i).b → ⊥

  -- which segments belong, worked out once for all of them
  unfoldable pub belonging : List Bool
  belonging = tab (length segs) belongs

  abbrev pub belongs_at : ℕ → Bool
  belongs_at i = get_or belonging i false

  -- "The tree is then hung from the source."
  unfoldable pub lightest : ℕ → List ℕ
  lightest s = hung_from segs n s belongs_at

  -- SHORTEST. "D(v) is the least length of a route from the source."
  unfoldable pub the_least_lengths : ℕ → List ℕ
  the_least_lengths s = least segs ok (length_at segs) n s

  -- "Post v hangs by the lowest-numbered segment from some u with D(u) plus its length equal to D(v)."
  unfoldable pub shortest : ℕ → List ℕ
  shortest s = hung segs ok (hanging_weight segs) n (least segs ok (hanging_weight segs) n s)

-- A TREE is "a list with one entry for each post: the number of the segment by which the post hangs on its parent, and
-- 65,535 for the source". What stands behind the n entries of a longer list is not looked at.
abbrev pub entry : List ℕ → ℕ → ℕ
entry t v = get_or t v no_segment

abbrev pub hangs : List ℕ → ℕ → Bool
hangs t v = not (eqb (entry t v) no_segment)

-- the segments by which n posts hang: i is the entry of one of them
unfoldable pub used_by : ℕ → List ℕ → ℕ → Bool
used_by n t i = any n (λ v. eqb (entry t v) i)

-- the entries of the list t are exactly the segments that belong: each of them belongs, each that belongs where s leads
-- is one, and no two posts have the same
pub record ExactlyBelonging (segs : List Segment) (ok : ℕ → Bool) (n s : ℕ) (t : List ℕ) : Type 0 where
  pub is_segment : (v : ℕ) → v < n → (entry t v ≡ no_segment → ⊥) → entry t v < length segs
  pub each_belongs : (v : ℕ) → v < n → (entry t v ≡ no_segment → ⊥) → Belongs segs ok n (entry t v)
  pub each_hangs : (i : ℕ) → i < length segs → Belongs segs ok n i → Chain segs ok s (nth_segment segs i).a → (v : ℕ)
      × (v < n) × (entry t v ≡ i)
  pub different : (v x : ℕ) → v < n → x < n → (v ≡ x → ⊥) → (entry t v ≡ no_segment → ⊥) → entry t v ≡ entry t x → ⊥

module _ (segs : List Segment) where
  abbrev pub parent : List ℕ → ℕ → ℕ
  parent t v = other segs (entry t v) v

  -- a path of the tree t, from v up to s by entries of segments that are there, and its length
  pub data Climb (ok : ℕ → Bool) (t : List ℕ) (s : ℕ) : ℕ → ℕ → Type 0 where
    arrived : {v : ℕ} → v ≡ s → Climb ok t s v 0
    up : {v u long : ℕ} → (v ≡ s → ⊥) → Leads segs (entry t v) u v → ok (entry t v) ≡ true → Climb ok t s u long
        → Climb ok t s v (length_at segs (entry t v) + long)

  -- t is a tree of n posts that reaches all of them from s
  pub record IsTree (ok : ℕ → Bool) (n s : ℕ) (t : List ℕ) (path : ℕ → ℕ) : Type 0 where
    pub one_each : length t ≡ n
    pub source_entry : entry t s ≡ no_segment
    pub reaches : (v : ℕ) → v < n → Climb ok t s v (path v)

  module _ (n : ℕ) (t : List ℕ) where
    -- the length of the path from v up, of at most k segments
    unfoldable pub path_up : ℕ → ℕ → ℕ
    path_up zero v = 0
    path_up (suc k) v = only (hangs t v) (λ _. length_at segs (entry t v) + path_up k (parent t v)) 0

    -- no path of a tree has more segments than there are posts
    unfoldable pub the_path_in : ℕ → ℕ
    the_path_in v = path_up n v

    -- "Radius is the longest path from the source in that tree."
    unfoldable pub radius : ℕ
    radius = largest n the_path_in

    -- the tree's whole length
    unfoldable pub whole : ℕ
    whole = sum n (λ v. counted (hangs t v) (length_at segs (entry t v)))

-- MARGIN. "(p + q) × D minus q × path in the tree. It is signed"
unfoldable pub the_margin_by : ℕ → ℕ → ℕ → ℕ → ℤ
the_margin_by p q D path = sub_ℕ ((p + q) * D) (q * path)
