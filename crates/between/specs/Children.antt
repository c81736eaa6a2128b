-- The children of each post, linked in rising number of their segments: the first child of a post, and after a child
-- the next one. A link is a post, and 65,535 where there is no further child. Relies on net's `child`; the code that
-- makes and follows the links cites it.
use Rattle.std.specs.Prelude.{◌≡◌, true, false, not, List, ℕ, suc, ◌≤◌, ◌<◌, eqb, length, set}
use Rattle.net.specs.Words.{only, no_segment}
use Rattle.net.specs.Net.{other}
use Rattle.net.specs.Trees.{entry}
use Rattle.net.specs.Walk.{Given, child}
use Rattle.between.specs.Given.{Lists}

-- c is the child of v with the lowest segment from number j on
pub record Found (g : Given) (n v j c : ℕ) : Type 0 where
  pub from : j ≤ entry g.walked c
  pub is_segment : entry g.walked c < length g.segments
  pub is_child : child g v (entry g.walked c) ≡ true
  pub leads : other g.segments (entry g.walked c) v ≡ c
  pub is_post : c < n
  pub none_between : (i : ℕ) → j ≤ i → i < entry g.walked c → child g v i ≡ false

-- c is the next child of v, by a segment from number j on, or says that there is none
pub data Next (g : Given) (n v j c : ℕ) : Type 0 where
  found : Found g n v j c → Next g n v j c
  nothing : c ≡ no_segment → ((i : ℕ) → j ≤ i → i < length g.segments → child g v i ≡ false) → Next g n v j c

-- the links of n posts, as far as they are made: those of v by the segments from number `done v` on
pub record Linked (g : Given) (n : ℕ) (done : ℕ → ℕ) (first after : List ℕ) : Type 0 where
  pub firsts : (v : ℕ) → v < n → Next g n v (done v) (entry first v)
  pub afters : (v i : ℕ) → v < n → done v ≤ i → i < length g.segments → child g v i ≡ true
      → Next g n v (suc i) (entry after (other g.segments i v))

-- the links of n posts by the segments from number j on, whatever the segments' lengths
pub record Indexed (a b walked : List ℕ) (n j : ℕ) (first after : List ℕ) : Type 0 where
  pub links : (g : Given) (lengths : List ℕ) → Lists g.segments a b lengths → g.walked ≡ walked
      → Linked g n (λ _. j) first after

-- first and after
abbrev pub Links : Type 0
Links = List ℕ × List ℕ

-- c becomes the first child of v, before those that v had
abbrev pub child_first : (v c : ℕ) → Links → Links
child_first v c l = (set l.0 v c, set l.1 c (entry l.0 v))

-- so it does if it hangs by segment i
unfoldable pub adopted : (i v c : ℕ) (walked : List ℕ) → Links → Links
adopted i v c walked l = only (eqb (entry walked c) i) (child_first v c) l

-- each end of a segment adopts the other
unfoldable pub adopted_both : (i x y : ℕ) (walked : List ℕ) → Links → Links
adopted_both i x y walked l = only (not (eqb x y)) (adopted i y x walked) (adopted i x y walked l)
