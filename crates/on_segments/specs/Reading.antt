-- What reading a record into lent lists answers, and what the lists hold afterwards: two plain lists with the posts'
-- own ratios and a list of segments. Relies on reading's `net_read`.
use Rattle.std.specs.Prelude.{◌≡◌, List, ◌++◌, ℕ, ◌≤◌, length, take, drop}
use Rattle.net.specs.Net.{Ratio, Net, own_of, ratios_of, segments_of}
use Rattle.net.specs.declared.Segment.{Segment}
use Rattle.numbers.specs.Numbers.{Got, got, refused}
use Rattle.reading.specs.Reading.{net_read}
use Rattle.reading.specs.Answers.{laid_in, ratios_read}
-- the head of the net that was read and how many segments it has, or the refusal
pub use Rattle.reading.specs.Answers.{read_answer}
use Rattle.net.specs.declared.Counted.{Counted}
use Rattle.net.specs.declared.Refusal.{Refusal}
use Rattle.std.specs.Prelude.{Result, Ok, Err}

-- how many segments an answer says were read
abbrev pub the_count_of : Result Counted Refusal → ℕ
the_count_of (Ok c) = c.count
the_count_of (Err r) = 0

-- the posts of the net that an answer says was read are at most k
abbrev pub PostsWithin : Result Counted Refusal → ℕ → Type 0
PostsWithin (Ok c) k = c.head.posts ≤ k
PostsWithin (Err r) k = Unit {0}

-- a lent list of the posts' numbers after an answer, where the ratios that were read stand side by side: one number of
-- each post's own, as reading's `laid_in` has them; after a refusal "what it held before"
abbrev pub laid_by : Result Counted Refusal → (Ratio → ℕ) → List Ratio → List ℕ → List ℕ
laid_by (Ok c) f ratios l = laid_in c.head.form f c.head.source (own_of c.head ratios) l
laid_by (Err r) f ratios l = l

-- INTO LISTS TO WORK IN: where reading gives g, the answer r, what p and q hold then, and three lists that begin with
-- the segments of the net; after a refusal nothing is said of these three
pub record ReadsFront (g : Got Net) (p q : List ℕ) (r : Result Counted Refusal) (p' q' a b c : List ℕ) : Type 0 where
  pub answers : r ≡ read_answer g
  pub p_is : p' ≡ ratios_read (λ o. o.p) g p
  pub q_is : q' ≡ ratios_read (λ o. o.q) g q
  pub stored : (n : Net) (next : ℕ) → g ≡ got n next
      → segments_of (take (length n.segments) a) (take (length n.segments) b) (take (length n.segments) c)
      ≡ n.segments

-- INTO A LENT LIST: what it holds afterwards, the segments that were read and behind them what it held; after a
-- refusal "what it held before"
abbrev pub list_read : Got Net → List Segment → List Segment
list_read (got n next) l = n.segments ++ drop (length n.segments) l
list_read (refused r) l = l

-- what reading into p, q and a lent list gives: there is room for as many segments as the list has places, and for as
-- many ratios as the shorter of p and q has
abbrev pub read_into : List ℕ → List ℕ → List ℕ → List Segment → Got Net
read_into bytes p q l = net_read bytes (length l) (length (ratios_of p q)) 0

-- READING. Of the bytes of a record, and of lists that held p, q and l: the answer r, and what the lists hold then
pub record Reads (bytes p q : List ℕ) (l : List Segment) (r : Result Counted Refusal) (p' q' : List ℕ) (l' : List Segment) : Type 0
  where
    pub answers : r ≡ read_answer (read_into bytes p q l)
    pub p_is : p' ≡ ratios_read (λ o. o.p) (read_into bytes p q l) p
    pub q_is : q' ≡ ratios_read (λ o. o.q) (read_into bytes p q l) q
    pub list_is : l' ≡ list_read (read_into bytes p q l) l
