-- Reading a record: a reader whose lines stand in the order of the refusals. The first number (10, 11), which is 0 in
-- the second form; the head's five numbers (10, 11), then 1 to 4, then 8 for the lent lists, then in the second form
-- each post's two numbers (10, 11) followed by its 3, then each segment's three numbers (10, 11) followed by its 5, 6,
-- 7, then 12. Relies on `numbers` and on net's lines of refusals. `Rules` says the same without an order of work, and
-- proofs/Ruled joins the two.
use Rattle.std.specs.Prelude.{ℕ, zero, suc, ◌+◌, Bool, true, false, cond, List, [], ◌∷◌, eqb, ltb, length}
use Rattle.std.proofs.Math.Option.{Option, none, some}
use Rattle.net.specs.Net.{Ratio, Net, no_ratio}
use Rattle.net.specs.Refusals.{Line, refusal, line, first, head_lines, ratio_lines, segment_lines, room_of_ratios}
use Rattle.net.specs.declared.Segment.{Segment}
use Rattle.net.specs.declared.Form.{Form}
use Rattle.net.specs.declared.Form.TheVariants.{First, Second}
use Rattle.net.specs.declared.Head.{Head}
use Rattle.net.specs.declared.Refusal.{Refusal}
use Rattle.numbers.specs.Numbers.{Got, got, refused, number}

-- The longest good record has 15,367 bytes. The program reads at most 15,372, which is enough for a last segment of
-- three four-byte numbers.
abbrev pub longest_record : ℕ
longest_record = 15367

abbrev pub enough_bytes : ℕ
enough_bytes = 15372

-- what is read depends on the offset where the reading begins
abbrev pub Reading : Type 0 → Type 0
Reading X = ℕ → Got X

module _ {X Y : Type 0} where
  -- a refusal ends the reading; what was read is handed on, with the offset after it
  abbrev pub and_then : Got X → (X → Reading Y) → Got Y
  and_then (got x at) f = f x at
  and_then (refused r) f = refused r

  infixl 10 ◌>>=◌
  abbrev pub ◌>>=◌ : Reading X → (X → Reading Y) → Reading Y
  (r >>= f) at = and_then (r at) f

infixl 10 ◌>>◌
abbrev pub ◌>>◌ : {X Y : Type 0} → Reading X → Reading Y → Reading Y
◌>>◌ r s = r >>= (λ _. s)

abbrev pub done : {X : Type 0} → X → Reading X
done x at = got x at

-- the first of some lines of refusals ends the reading
abbrev pub unless : Option Refusal → Reading (Unit {0})
unless none at = got tt at
unless (some r) at = refused r

unfoldable pub hold : List Line → Reading (Unit {0})
hold ls = unless (first ls)

-- what the head of a record says: all of a net but its posts' own ratios and its segments, and how many segments
-- there are
pub record Heading : Type 0 where
  pub head : Head
  pub count : ℕ

-- three numbers in a row
pub record Triple : Type 0 where
  pub one : ℕ
  pub two : ℕ
  pub three : ℕ

-- 8: "a lent segment list fewer than the record's segments"
unfoldable pub room_lines : ℕ → ℕ → List Line
room_lines room count = line 8 (ltb room count) 0 ∷ []

module _ (bytes : List ℕ) where
  unfoldable pub triple : Reading Triple
  triple = do
    a ← number bytes
    b ← number bytes
    c ← number bytes
    done (record { one = a; two = b; three = c })

  -- "a first number 0" is that of the second form, and the reading goes on behind it; any other is the first of the
  -- first form's head, and the reading goes on at it
  unfoldable pub formed : Reading Form
  formed at = and_then (number bytes at) (λ n next. cond (eqb n 0) (got Second next) (got First at))

  -- "post count, source, p, q, segment count"
  unfoldable pub headed : Form → Reading Heading
  headed form = do
    posts ← number bytes
    source ← number bytes
    p ← number bytes
    q ← number bytes
    count ← number bytes
    done (record { head = record { posts = posts; source = source; p = p; q = q; form = form }; count = count })

  unfoldable pub heading : Reading Heading
  heading = formed >>= headed

  -- the own ratio of post v: "p and q", then its 3
  unfoldable pub ratio : ℕ → Reading Ratio
  ratio v = do
    p ← number bytes
    q ← number bytes
    let r : Ratio = record { p = p; q = q }
    hold (ratio_lines v r)
    done r

  -- of the source nothing is read
  abbrev pub unless_source : Bool → ℕ → Reading Ratio
  unless_source true v = done no_ratio
  unless_source false v = ratio v

  unfoldable pub post : ℕ → ℕ → Reading Ratio
  post source v = unless_source (eqb v source) v

  -- "for each post but the source in rising order": k posts, the first of them post v
  unfoldable pub posts : ℕ → ℕ → ℕ → Reading (List Ratio)
  posts source v zero = done []
  posts source v (suc k) = do
    r ← post source v
    rs ← posts source (v + 1) k
    done (r ∷ rs)

  -- the posts' own ratios: none in the first form
  abbrev pub own_in : Form → Head → Reading (List Ratio)
  own_in First h = done []
  own_in Second h = posts h.source 0 h.posts

  unfoldable pub the_own_read : Head → Reading (List Ratio)
  the_own_read h = own_in h.form h

  -- segment i: "its two posts in the order given and its length", then 5, 6, 7
  unfoldable pub segment : ℕ → ℕ → Reading Segment
  segment posts i = do
    a ← number bytes
    b ← number bytes
    l ← number bytes
    let s : Segment = record { a = a; b = b; length = l }
    hold (segment_lines posts s i)
    done s

  -- k segments, the first of them segment i
  unfoldable pub segments : ℕ → ℕ → ℕ → Reading (List Segment)
  segments posts i zero = done []
  segments posts i (suc k) = do
    s ← segment posts i
    ss ← segments posts (i + 1) k
    done (s ∷ ss)

  -- 12: "bytes after the last segment"
  unfoldable pub ended : Reading (Unit {0})
  ended at = cond (ltb at (length bytes)) (refused (refusal 12 at)) (got tt at)

  -- the segments of a net and the end, behind its head and its posts' own ratios
  unfoldable pub last_read : Heading → List Ratio → Reading Net
  last_read h own = do
    ss ← segments h.head.posts 0 h.count
    ended
    done (record { head = h.head; own = own; segments = ss })

  -- what stands behind a head; room is how many segments the lent list has, ratioRoom how many ratios are lent
  unfoldable pub rest_read : ℕ → ℕ → Heading → Reading Net
  rest_read room ratioRoom h = do
    hold (head_lines h.head h.count)
    hold (room_lines room h.count)
    hold (room_of_ratios h.head.posts ratioRoom)
    own ← the_own_read h.head
    last_read h own

  -- the whole record
  unfoldable pub net_read : ℕ → ℕ → Reading Net
  net_read room ratioRoom = heading >>= rest_read room ratioRoom
