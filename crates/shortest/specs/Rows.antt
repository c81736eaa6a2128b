-- The index of a net: the ends of its segments in rows, a row for each post, made once for any number of searches.
-- Code 2 * i + 1 is the first end of segment i, and 2 * i + 2 the second; 0 ends a row. Rests on `hanging`'s lists.
use Rattle.std.specs.Prelude.{cond, List, ◌++◌, ℕ, ◌+◌, ◌*◌, ◌<◌, ◌≤◌, ltb, length, set, drop, replicate}
use Rattle.std.specs.Borrow.{Bor}
use Rattle.net.specs.Words.{each}
use Rattle.net.specs.declared.SegmentLists.{SegmentLists}
use Rattle.hanging.specs.Lists.{note}

-- code k is on the row from c
pub data On (next : ℕ → ℕ) (k : ℕ) : ℕ → Type 0 where
  first : 0 < k → On next k k
  later : {c : ℕ} → 0 < c → On next k (next c) → On next k c

-- each of the first na first ends and nb second ends that is a post is on this post's row, and a row's codes fall,
-- from t at the most
pub record Index (a b : ℕ → ℕ) (posts t na nb : ℕ) (head next : ℕ → ℕ) : Type 0 where
  pub tops : (u : ℕ) → u < posts → head u ≤ t
  pub falls : (c : ℕ) → 0 < c → c ≤ t → next c < c
  pub on_a : (i : ℕ) → i < na → a i < posts → On next (2 * i + 1) (head (a i))
  pub on_b : (i : ℕ) → i < nb → b i < posts → On next (2 * i + 2) (head (b i))

-- the index of all segments
abbrev pub IndexOf : ℕ → List ℕ → List ℕ → List ℕ → List ℕ → Type 0
IndexOf posts a b head next = Index (note a) (note b) posts (2 * length a) (length a) (length a) (note head) (note next)

-- the same of lent lists
abbrev pub IndexIn : ℕ → SegmentLists → Bor (List ℕ) → Bor (List ℕ) → Type 0
IndexIn posts s head next = IndexOf posts s.a.now s.b.now head.now next.now

-- MADE, code by code: for each post the first code of its row, for each code the next one
abbrev pub Rows : Type 0
Rows = List ℕ × List ℕ

-- code c goes before the row of x, if x is a post
unfoldable pub push_of : ℕ → ℕ → ℕ → Rows → Rows
push_of posts x c r = cond (ltb x posts) (set r.0 x c, set r.1 c (note r.0 x)) (r.0, set r.1 c 0)

-- the ends of the first m segments, each segment's first end before its second
unfoldable pub rows_of : ℕ → List ℕ → List ℕ → ℕ → Rows → Rows
rows_of posts a b m = each m (λ i r. push_of posts (note b i) (2 * i + 2) (push_of posts (note a i) (2 * i + 1) r))

-- rows without a code: entries beyond the post count, and the next codes, are as they were
abbrev pub no_rows : ℕ → List ℕ → List ℕ → Rows
no_rows posts tops links = (replicate posts 0 ++ drop posts tops, links)
