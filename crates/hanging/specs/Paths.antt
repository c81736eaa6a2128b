-- What is asked of a tree list whose paths are worked out each once, and what a list of paths holds meanwhile. The
-- contracts of `paths_of` and of the functions below it cite it. Rests on `Lists` and on `net`'s words.
use Rattle.std.specs.Prelude.{◌≡◌, cond, List, ◌⊎◌, ℕ, suc, ◌<◌, ◌≤◌, eqb, length, take}
use Rattle.std.specs.Borrow.{Bor}
use Rattle.net.specs.Words.{no_segment}
use Rattle.net.specs.Net.{most_posts, most_segments, segments_of}
use Rattle.net.specs.Trees.{entry, parent, the_path_in}
use Rattle.net.specs.declared.Segment.{Segment}
use Rattle.net.specs.declared.SegmentLists.{SegmentLists}
use Rattle.hanging.specs.Lists.{note, Short}

-- no path is as long: what stands for a post whose path isn't known yet
abbrev pub unknown : ℕ
unknown = 4294967295

-- what stands there at first for a post of the entry e
abbrev pub the_first_path : ℕ → ℕ
the_first_path e = cond (eqb e no_segment) 0 unknown

module _ (segs : List Segment) (n : ℕ) (t : List ℕ) where
  -- k segments lead from v up, over posts, to one that hangs by none
  pub data Up : ℕ → ℕ → Type 0 where
    top : {v : ℕ} → entry t v ≡ no_segment → Up 0 v
    on : {k v : ℕ} → entry t v < length segs → parent segs t v < n → Up k (parent segs t v) → Up (suc k) v

  -- the way up from every post ends: there is no ring. A post that is left out hangs by none.
  pub record Rooted : Type 0 where
    pub ends : (v : ℕ) → v < n → (k : ℕ) × (k ≤ n) × Up k v

  -- what stands for a post is its path, or that it isn't known yet; that of a post that hangs by none is known
  pub record Known (paths : List ℕ) : Type 0 where
    pub each : (v : ℕ) → v < n → (note paths v ≡ the_path_in segs n t v)
        ⊎ ((note paths v ≡ unknown) × (entry t v ≡ no_segment → ⊥))

  -- the path of v is known now, those that were stay so, and behind the posts nothing changes
  pub record Learnt (v : ℕ) (before after : List ℕ) : Type 0 where
    pub known : Known after
    pub this : note after v ≡ the_path_in segs n t v
    pub still : (x : ℕ) → note before x ≡ the_path_in segs n t x → note after x ≡ the_path_in segs n t x
    pub rest : (x : ℕ) → n ≤ x → note after x ≡ note before x

-- three lists of segments side by side, and a tree list of which the first n entries are looked at
pub record Listed (n : ℕ) (a b lengths tree : List ℕ) : Type 0 where
  pub few_posts : n ≤ most_posts
  pub entries : n ≤ length tree
  pub few : length a ≤ most_segments
  pub b_many : length b ≡ length a
  pub lengths_many : length lengths ≡ length a
  pub short : Short lengths
  pub rooted : Rooted (segments_of a b lengths) n (take n tree)

-- the same of lent lists
abbrev pub ListedIn : ℕ → SegmentLists → Bor (List ℕ) → Type 0
ListedIn n s tree = Listed n s.a.now s.b.now s.lengths.now tree.now
