-- Bytes put into a room, one run behind the other, and what the steps of writing come to together. Relies on `put` and
-- `onto` of the crate `numbers`.
use Prim.Native.Nat.{ℕ, ◌+◌, ◌<◌, ◌≤◌}
use mathlib.Core.Path.{◌≡◌, refl, sym, ap, ◌∙◌}
use mathlib.Core.List.{List, [], ◌∷◌, ◌++◌, append_assoc, append-nil}
use native.Mathlib.Nat.{zero-add, add-zero}
use native.Mathlib.Omega.{arith}
use native.Mathlib.Numerals.{add-one}
use lib.ListN.{length, take, drop, length-append, length-take, take-append-drop}
use lib.Seq.{take_all, take-suc, take_at, drop_at, drop-drop}
use Rattle.net.specs.Net.{nth_segment, beyond}
use Rattle.net.specs.declared.Segment.{Segment}
use Rattle.net.specs.declared.Head.{Head}
use Rattle.numbers.specs.Numbers.{written}
use Rattle.numbers.specs.Putting.{onto, put}
use Rattle.writing.specs.Writing.{form_written, numbers_written, head_written, segment_written, segments_written}
use Rattle.writing.specs.Putting.{HasRoom, Wrote}
use Rattle.writing.specs.declared.Page.{Page}

module _ (l u : List ℕ) (at : ℕ) (within : at + length u ≤ length l) where
  front : length (take at l ++ u) ≡ at + length u
  front = simp (length-append, length-take) (omega arith)

  regrouped : put at u l ≡ (take at l ++ u) ++ drop (at + length u) l
  regrouped = sym (append_assoc (take at l) u (drop (at + length u) l))

  -- a run behind a run
  pub put_put : (v : List ℕ) → put (at + length u) v (put at u l) ≡ put at (u ++ v) l
  put_put v =
      let x = put at u l in
      let t : take (at + length u) x ≡ take at l ++ u = rw regrouped (take_at (take at l ++ u) (drop (at + length u) l) (at + length u) front) in
      let d : drop (at + length u) x ≡ drop (at + length u) l = rw regrouped (drop_at (take at l ++ u) (drop (at + length u) l) (at + length u) front) in
      let b : drop (at + length u + length v) x ≡ drop (at + length u + length v) l =
      sym (drop-drop (length v) (at + length u) x) ∙ ap (λ (y : List ℕ). drop (length v) y) d ∙ drop-drop (length v) (at + length u) l in
      let n : at + length u + length v ≡ at + length (u ++ v) = simp length-append (omega arith) in
      ap (λ (y : List ℕ). y ++ (v ++ drop (at + length u + length v) x)) t
      ∙ ap (λ (y : List ℕ). take at l ++ u ++ (v ++ y)) b
      ∙ ap (λ (y : ℕ). take at l ++ u ++ (v ++ drop y l)) n
      ∙ simp append_assoc

pub put_onto : (s l : List ℕ) → put 0 s l ≡ onto s l
put_onto s l = rw zero-add

pub put_nothing : (at : ℕ) (l : List ℕ) → put at [] l ≡ l
put_nothing at l = rw add-zero (take-append-drop at l)

-- ON A PAGE: nothing, and one run behind another
pub wrote_none : (a : Page) → a.at ≤ length a.room.now → Wrote [] a a
wrote_none a h = record { behind = omega arith; holds = sym (put_nothing a.at a.room.now); fits = omega arith; same = refl; room = refl }

pub wrote_then : {s t : List ℕ} {a b d : Page} → Wrote s a b → Wrote t b d → Wrote (s ++ t) a d
wrote_then {s} {t} {a} {b} {d} p q =
    record {
      behind = simp length-append (omega (arith, p.behind, q.behind));
      holds = q.holds ∙ rw (p.holds, p.behind) (put_put a.room.now s a.at p.fits t);
      fits = simp length-append (omega (arith, p.behind, p.same, q.fits));
      same = q.same ∙ p.same;
      room = q.room ∙ p.room;
    }

-- A HEAD, A SEGMENT, SEGMENTS: the lengths and the runs of which they are made
pub numbers_length : (h : Head) (count : ℕ) → length (numbers_written h count)
    ≡ length (written h.posts) + length (written h.source) + length (written h.p) + length (written h.q) + length (written count)
unfolding numbers_written
numbers_length h count = simp length-append (omega arith)

pub head_length : (h : Head) (count : ℕ) → length (head_written h count) ≡ length (form_written h.form) + length (numbers_written h count)
unfolding head_written
head_length h count = length-append (form_written h.form) (numbers_written h count)

pub numbers_runs : (h : Head) (count : ℕ) → written h.posts ++ written h.source ++ written h.p ++ written h.q ++ written count ≡ numbers_written h count
unfolding numbers_written
numbers_runs h count = simp append_assoc

pub segment_length : (s : Segment) → length (segment_written s) ≡ length (written s.a) + length (written s.b) + length (written s.length)
unfolding segment_written
segment_length s = simp length-append (omega arith)

pub segment_runs : (s : Segment) → written s.a ++ written s.b ++ written s.length ≡ segment_written s
unfolding segment_written
segment_runs s = simp append_assoc

pub segments_append : (ss ts : List Segment) → segments_written (ss ++ ts) ≡ segments_written ss ++ segments_written ts
unfolding segments_written
segments_append [] ts = refl
segments_append (s ∷ ss) ts = rw (segments_append ss ts, append_assoc)

one_segment : (s : Segment) → segments_written (s ∷ []) ≡ segment_written s
unfolding segments_written
one_segment s = append-nil (segment_written s)

-- one segment more
pub segments_next : (ss : List Segment) (i : ℕ) → i < length ss → segments_written (take (i + 1) ss) ≡ segments_written (take i ss) ++ segment_written (nth_segment ss i)
segments_next ss i h = rw (add-one, take-suc ss i beyond h, segments_append, one_segment)

-- no more segments than the whole take up
pub segments_within : (ss : List Segment) (i : ℕ) → i < length ss
    → length (segments_written (take i ss)) + length (segment_written (nth_segment ss i)) ≤ length (segments_written ss)
segments_within ss i h =
    let e : length (segments_written ss) ≡ length (segments_written (take (i + 1) ss)) + length (segments_written (drop (i + 1) ss)) =
    ap (λ (l : List Segment). length (segments_written l)) (sym (take-append-drop (i + 1) ss)) ∙ ap (λ (l : List ℕ). length l) (segments_append (take (i + 1) ss) (drop (i + 1) ss))
    ∙ length-append (segments_written (take (i + 1) ss)) (segments_written (drop (i + 1) ss)) in
    let f : length (segments_written (take (i + 1) ss)) ≡ length (segments_written (take i ss)) + length (segment_written (nth_segment ss i)) =
    ap (λ (l : List ℕ). length l) (segments_next ss i h) ∙ length-append (segments_written (take i ss)) (segment_written (nth_segment ss i)) in
    omega arith

-- a segment's numbers, each of them put behind the one before
pub segment_size : (s : Segment) {a b x y z : ℕ} → a ≡ s.a → b ≡ s.b → x ≡ length (written a) → y ≡ length (written b) → z ≡ length (written s.length)
    → x + y + z ≡ length (segment_written s)
segment_size s p q e f g =
    let e' = rw p at e in
    let f' = rw q at f in
    omega (arith, segment_length s)

pub segment_put : (s : Segment) {x y : ℕ} {a b d e : Page} → x ≡ s.a → y ≡ s.b → Wrote (written x) a b → Wrote (written y) b d → Wrote (written s.length) d e
    → Wrote (segment_written s) a e
segment_put s f g p q r = rw (← segment_runs s) (wrote_then (wrote_then (rw f at p) (rw g at q)) r)

-- THE LOOP OVER THE SEGMENTS: the first i of them are put on the page
pub record PutTo (ss : List Segment) (i : ℕ) (a b : Page) : Type 0 where
  pub few : i ≤ length ss
  pub wrote : Wrote (segments_written (take i ss)) a b

pub begin_put : (ss : List Segment) (a : Page) → HasRoom (segments_written ss) a → PutTo ss 0 a a
unfolding segments_written
begin_put ss a h = record { few = omega arith; wrote = wrote_none a (omega arith) }

module _ {ss : List Segment} {i : ℕ} {a b : Page} (p : PutTo ss i a b) (h : i < length ss) {s : Segment} (e : s ≡ nth_segment ss i) where
  -- there is room for the next segment
  pub put_room : HasRoom (segments_written ss) a → HasRoom (segment_written s) b
  put_room long = rw e (omega (arith, segments_within ss i h, p.wrote.behind, p.wrote.same))

  pub put_next : {d : Page} → Wrote (segment_written s) b d → PutTo ss (i + 1) a d
  put_next q = record { few = omega arith; wrote = rw (segments_next ss i h) (wrote_then p.wrote (rw e at q)) }

pub put_all : {ss : List Segment} {i : ℕ} {a b : Page} → PutTo ss i a b → length ss ≤ i → Wrote (segments_written ss) a b
put_all {ss} {i} p h = rw (take_all i ss h) at p.wrote
