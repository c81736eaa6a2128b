-- What laying a direct path and entering a post look at, and what they ask: on the way up the shortest tree a post's
-- depth falls. The shortest tree is a list of entries with a list of parents beside it. Relies on Given.
use Rattle.std.specs.Prelude.{◌≡◌, cond, List, ℕ, zero, suc, ◌+◌, ◌*◌, ◌<◌, eqb, ltb, length, get_or}
use Rattle.net.specs.Words.{no_segment}
use Rattle.net.specs.Net.{length_at}
use Rattle.net.specs.Trees.{at, entry, parent}
use Rattle.net.specs.Walk.{Given}

-- how many segments stand between v and the top of a tree, at most k of them
unfoldable pub depth : (tree up : List ℕ) → ℕ → ℕ → ℕ
depth tree up zero v = 0
depth tree up (suc k) v = cond (eqb (entry tree v) no_segment) 0 (suc (depth tree up k (get_or up v 0)))

-- the note of v is above its least length
abbrev pub Late : (dist d : List ℕ) → ℕ → Type 0
Late dist d v = at dist v < at d v

-- v hangs in the shortest tree, deeper than its parent, and less deep than there are posts
pub record Deeper (shortest up : List ℕ) (v : ℕ) : Type 0 where
  pub is_post : v < length shortest
  pub above : depth shortest up (length up) (get_or up v 0) < depth shortest up (length up) v
  pub deep : depth shortest up (length up) v < length shortest

-- so do all posts whose direct path may be laid
pub record Layable (shortest up dist d : List ℕ) : Type 0 where
  pub deeper : (v : ℕ) → Late dist d v → Deeper shortest up v

-- WHAT THE WALK IS GIVEN. g has these lengths, this shortest tree with these parents, and these least lengths: all
-- that laying looks at
pub record Direct (g : Given) (lengths shortest up dist : List ℕ) : Type 0 where
  pub lengths_are : (i : ℕ) → length_at g.segments i ≡ get_or lengths i 0
  pub shortest_is : g.shortest ≡ shortest
  pub d_is : g.D ≡ dist
  pub up_is : (v : ℕ) → v < length shortest → get_or up v 0 ≡ parent g.segments g.shortest v
  pub posts_are : length shortest ≡ g.posts

-- and this limit of v: all that entering v looks at
pub record Entering (g : Given) (v : ℕ) (limits lengths shortest up dist : List ℕ) : Type 0 where
  pub direct : Direct g lengths shortest up dist
  pub limit_is : (x : ℕ) → ltb (at limits v) x ≡ ltb ((g.p v + g.q v) * at g.D v) (g.q v * x)
