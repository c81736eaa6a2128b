-- BETWEEN: the notes, try, lay, enter and walk, sentence by sentence as document 01 has them, over any tree list and
-- any ratios. `WalkRules` says the same without tests and bounds, and proofs/WalkRuled joins the two.
use Rattle.std.specs.Prelude.{Bool, ◌&&◌, cond, List, [], ◌∷◌, ℕ, zero, suc, ◌+◌, ◌*◌, eqb, ltb, length, set, replicate}
use Rattle.net.specs.Words.{each, only, tab, no_segment}
use Rattle.net.specs.Net.{length_at, touches, other}
use Rattle.net.specs.Trees.{none_yet, at, entry, parent}
use Rattle.net.specs.declared.Segment.{Segment}

-- "Each post has a note d"; the segments by which the posts hang; the posts whose direct paths were laid, the last one
-- first
pub record Notes : Type 0 where
  pub d : List ℕ
  pub entries : List ℕ
  pub laid : List ℕ

-- what the walk is given: the tree that is walked, the shortest tree, its least lengths, and each post's ratio
pub record Given : Type 0 where
  pub segments : List Segment
  pub posts : ℕ
  pub walked : List ℕ
  pub shortest : List ℕ
  pub D : List ℕ
  pub p : ℕ → ℕ
  pub q : ℕ → ℕ

-- "0 at the source, elsewhere "none yet", which is larger than any length"
unfoldable pub at_start : ℕ → ℕ → Notes
at_start n s = record { d = tab n (λ v. cond (eqb v s) 0 none_yet); entries = replicate n no_segment; laid = [] }

module _ (g : Given) where
  -- v's note becomes d(u) plus the length of i, and v hangs by i
  unfoldable pub hang_by : ℕ → ℕ → ℕ → Notes → Notes
  hang_by u i v n = record {
    d = set n.d v (at n.d u + length_at g.segments i);
    entries = set n.entries v i;
    laid = n.laid;
  }

  -- "To try v from u by a segment: if d(u) plus its length is less than d(v), that becomes d(v) and v hangs by that
  -- segment; otherwise nothing changes."
  unfoldable pub try : ℕ → ℕ → ℕ → Notes → Notes
  try u i v n = only (ltb (at n.d u + length_at g.segments i) (at n.d v)) (hang_by u i v) n

  -- "Laying the direct path of v: if d(v) is greater than D(v), the direct path of its parent in the shortest tree is
  -- laid first, and then v is tried from that parent by its entry there; if not, nothing is done." At most k segments
  -- up
  unfoldable pub lay : ℕ → ℕ → Notes → Notes
  lay zero v n = n
  lay (suc k) v n =
      only (ltb (at g.D v) (at n.d v))
      (λ m. let u = parent g.segments g.shortest v in try u (entry g.shortest v) v (lay k u m))
      n

  -- "count one"
  unfoldable pub count : ℕ → Notes → Notes
  count v n = record { d = n.d; entries = n.entries; laid = v ∷ n.laid }

  -- "On entering v: if q × d(v) is greater than (p + q) × D(v), lay the direct path of v and count one."
  unfoldable pub enter : ℕ → Notes → Notes
  enter v n = only (ltb ((g.p v + g.q v) * at g.D v) (g.q v * at n.d v)) (λ m. count v (lay g.posts v m)) n

  -- segment i is the entry of a child of v in the tree that is walked
  abbrev pub child : ℕ → ℕ → Bool
  child v i = touches g.segments i v && eqb (entry g.walked (other g.segments i v)) i

  -- "Then for each child c, in rising number of its segment: try c from v, walk c, try v from c." At most k posts deep
  unfoldable pub walk : ℕ → ℕ → Notes → Notes
  walk zero v n = n
  walk (suc k) v n =
      each (length g.segments)
      (λ i. only (child v i) (λ m. let c = other g.segments i v in try c i v (walk k c (try v i c m))))
      (enter v n)
