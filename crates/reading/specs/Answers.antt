-- What the answers of the code say in document 01's words: "either a result or a refusal with its number and its
-- place". Relies on `numbers`, `Reading` and what `writing` calls an answer (`Said`); the contracts of the code are
-- equations with these.
use Rattle.std.specs.Prelude.{ℕ, ◌<◌, ◌≡◌, not, ◌&&◌, cond, List, ◌++◌, map, eqb, ltb, length, get_or, take, drop}
use Rattle.std.specs.Prelude.{Result, Ok, Err}
use Rattle.net.specs.Words.{tab}
use Rattle.net.specs.Net.{Ratio, Net, net_of, ratio_at, ratios_of, own_of, segments_of}
use Rattle.net.specs.Refusals.{Checked, first, segment_lines}
use Rattle.net.specs.declared.Form.{Form}
use Rattle.net.specs.declared.Form.TheVariants.{First, Second}
use Rattle.net.specs.declared.Segment.{Segment}
use Rattle.net.specs.declared.Refusal.{Refusal}
use Rattle.net.specs.declared.Counted.{Counted}
use Rattle.numbers.specs.Numbers.{Got, got, refused}
use Rattle.writing.specs.Answers.{Said, result, refusal_of}
use Rattle.reading.specs.Reading.{and_then, unless, Triple, Heading, net_read}

abbrev pub said_of : {X : Type 0} → Got X → Said X
said_of (got x next) = result x
said_of (refused r) = refusal_of r

-- READING: what was read and the offset behind it, as the code hands them on, or the refusal
abbrev pub read_of : {X Y : Type 0} → (X → ℕ → Y) → Got X → Result Y Refusal
read_of f (got x next) = Ok (f x next)
read_of f (refused r) = Err r

-- what the head of a record says, as the code has it
abbrev pub counted : Heading → Counted
counted h = record { head = h.head; count = h.count }

-- three numbers as a segment
abbrev pub segment_from : Triple → Segment
segment_from t = record { a = t.one; b = t.two; length = t.three }

-- segment i of three numbers: 5, 6, 7, or the segment
unfoldable pub the_segment_of : Got Triple → ℕ → ℕ → Got Segment
the_segment_of g posts i =
    and_then g (λ t at. and_then (unless (first (segment_lines posts (segment_from t) i)) at) (λ _ at.
    got (segment_from t) at))

-- THE POSTS' OWN RATIOS: how many posts have one, none in the first form
abbrev pub the_own_posts : Form → ℕ → ℕ
the_own_posts First posts = 0
the_own_posts Second posts = posts

-- two lists in which the ratios of k posts that were read stand at their places; nothing is said of the source's
pub record OwnStored (source k : ℕ) (g : Got (List Ratio)) (p q : List ℕ) : Type 0 where
  pub stored : (own : List Ratio) (next : ℕ) → g ≡ got own next
      → (v : ℕ) → v < k → (v ≡ source → ⊥) → ratio_at (ratios_of p q) v ≡ ratio_at own v

-- THE SEGMENTS: three lists at whose fronts k that were read stand
pub record SegmentsStored (k : ℕ) (g : Got (List Segment)) (a b l : List ℕ) : Type 0 where
  pub stored : (ss : List Segment) (next : ℕ) → g ≡ got ss next
      → segments_of (take k a) (take k b) (take k l) ≡ ss

-- A RECORD: the head of the net that was read and how many segments it has, or the refusal
abbrev pub read_answer : Got Net → Result Counted Refusal
read_answer (got n next) = Ok (record { head = n.head; count = length n.segments })
read_answer (refused r) = Err r

-- the answer r, three lists that begin with the segments of the net, and two that begin with its posts' own ratios;
-- after a refusal nothing is said of the lists
pub record ReadIn (g : Got Net) (r : Result Counted Refusal) (p q a b l : List ℕ) : Type 0 where
  pub answers : r ≡ read_answer g
  pub stored : (n : Net) (next : ℕ) → g ≡ got n next
      → segments_of (take (length n.segments) a) (take (length n.segments) b) (take (length n.segments) l)
      ≡ n.segments
  pub stored_own : (n : Net) (next : ℕ) → g ≡ got n next → own_of n.head (ratios_of p q) ≡ n.own

-- a lent list afterwards: one number of each segment that was read, and behind them what it held; after a refusal
-- "what it held before"
abbrev pub list_read : (Segment → ℕ) → Got Net → List ℕ → List ℕ
list_read f (got n next) l = map f n.segments ++ drop (length n.segments) l
list_read f (refused r) l = l

-- a lent list of the posts' numbers afterwards: in the second form one number of each post's own ratio; what it held
-- at the source's place and beyond the posts, and in the first form all it held, is as it was
abbrev pub laid_in : Form → (Ratio → ℕ) → ℕ → List Ratio → List ℕ → List ℕ
laid_in First f source own l = l
laid_in Second f source own l =
    tab (length l) (λ v. cond (ltb v (length own) && not (eqb v source)) (f (ratio_at own v)) (get_or l v 0))

abbrev pub ratios_read : (Ratio → ℕ) → Got Net → List ℕ → List ℕ
ratios_read f (got n next) l = laid_in n.head.form f n.head.source n.own l
ratios_read f (refused r) l = l

-- what reading into five lent lists gives: three stand for as many segments as the shortest has places, two for as
-- many ratios as the shorter has
abbrev pub read_into : List ℕ → List ℕ → List ℕ → List ℕ → List ℕ → List ℕ → Got Net
read_into bytes p q a b l = net_read bytes (length (segments_of a b l)) (length (ratios_of p q)) 0

-- READING into them: the answer r, and what they hold then
pub record ReadsLists (bytes p q a b l : List ℕ) (r : Result Counted Refusal) (p' q' a' b' l' : List ℕ) : Type 0 where
  pub answers : r ≡ read_answer (read_into bytes p q a b l)
  pub p_is : p' ≡ ratios_read (λ o. o.p) (read_into bytes p q a b l) p
  pub q_is : q' ≡ ratios_read (λ o. o.q) (read_into bytes p q a b l) q
  pub a_is : a' ≡ list_read (λ s. s.a) (read_into bytes p q a b l) a
  pub b_is : b' ≡ list_read (λ s. s.b) (read_into bytes p q a b l) b
  pub lengths_are : l' ≡ list_read (λ s. s.length) (read_into bytes p q a b l) l

-- CHECKING: nothing refuses the record, or reading's refusal
abbrev pub check_read : Got Net → Checked
check_read (got n next) = Ok tt
check_read (refused r) = Err r

-- WHAT AN ANSWER SAYS, with the ratios and the segments that go with it
abbrev pub says_by : Result Counted Refusal → List Ratio → List Segment → Said Net
says_by (Ok c) ratios ss = result (net_of c.head ratios c.count ss)
says_by (Err r) ratios ss = refusal_of r
