-- What is answered of a record, and what the lent lists hold afterwards: a refusal of reading is the answer, and then
-- nothing is changed; otherwise it is what building, writing or margin answers of the net that was read. Relies on
-- reading's `net_read`, writing's `Writing` and `Answers`, net's `Building`, building's and margins' `Answers`.
use Rattle.std.specs.Prelude.{◌≡◌, List, ℕ, ◌≤◌, length, replicate, take}
use Rattle.std.specs.Borrow.{Bor}
use Rattle.net.specs.Net.{Net, every, most_posts, most_segments}
use Rattle.net.specs.Refusals.{Lent}
use Rattle.net.specs.Ready.{net_at, Ready}
use Rattle.net.specs.Building.{BuildAnswer, built, refused, build_of, after_build, margin_of}
use Rattle.net.specs.Building as B
use Rattle.net.specs.declared.Head.{Head}
use Rattle.net.specs.declared.Tree.{Tree}
use Rattle.net.specs.declared.Tree.TheVariants.{Lightest, Shortest, Between}
use Rattle.building.specs.Answers.{lent_of}
use Rattle.margins.specs.Answers.{margin_answer_of}
use Rattle.numbers.specs.Numbers.{Got, got, refused as unread}
use Rattle.reading.specs.Reading.{net_read}
use Rattle.writing.specs.Writing.{the_room_after}
use Rattle.writing.specs.Answers.{write_answer_of}
use Rattle.net.specs.declared.Plan.{Plan}
use Rattle.net.specs.declared.Refusal.{Refusal}
use Rattle.building.specs.Answers.{Answer}
use Rattle.margins.specs.Answers.{MarginAnswer}
use Rattle.building.specs.Answers.{measures}
use Rattle.std.specs.Prelude.{Result, Ok, Err}

-- a record is read with places for as many segments and posts as a net may have, so that 8 is never given for them, and
-- the net that was read is handed on with as many ratios (proofs/Room)
unfoldable pub record_read : List ℕ → Got Net
record_read bytes = net_read bytes most_segments most_posts 0

-- the net of a head, of the ratios of two lists and of the first m segments of three
abbrev pub front_of : Head → ℕ → List ℕ → List ℕ → List ℕ → List ℕ → List ℕ → Net
front_of h m p q a b l = net_at h p q (take m a) (take m b) (take m l)

abbrev pub front_by : Head → ℕ → Bor (List ℕ) → Bor (List ℕ) → Bor (List ℕ) → Bor (List ℕ) → Bor (List ℕ) → Net
front_by h m p q a b l = front_of h m p.now q.now a.now b.now l.now

-- two lists with a place for each post that a net may have, and three with one for each segment: nothing is in them
pub record Empty (p q a b l : List ℕ) : Type 0 where
  pub p_empty : p ≡ replicate most_posts 0
  pub q_empty : q ≡ replicate most_posts 0
  pub a_empty : a ≡ replicate most_segments 0
  pub b_empty : b ≡ replicate most_segments 0
  pub l_empty : l ≡ replicate most_segments 0

-- two lists have a place for every post, three have so many places, and nothing from 1 to 7 refuses the net in them
pub record Front (h : Head) (m : ℕ) (p q a b l : List ℕ) : Type 0 where
  pub p_long : length p ≡ most_posts
  pub q_long : length q ≡ most_posts
  pub a_long : m ≤ length a
  pub b_long : m ≤ length b
  pub l_long : m ≤ length l
  pub ready : Ready h p q (take m a) (take m b) (take m l)

-- PLAN: what building answers, with a head and a number of segments
abbrev pub planned_with : Head → ℕ → BuildAnswer → Result Plan Refusal
planned_with h m (built l s b k) = Ok (record { head = h; count = m; built = measures l s b k })
planned_with h m (refused r) = Err r

-- the same of the code's answer
abbrev pub planned_as : Head → ℕ → Answer → Result Plan Refusal
planned_as h m (Ok x) = Ok (record { head = h; count = m; built = x })
planned_as h m (Err r) = Err r

-- of the net that was read, with its head and the number of its segments; or the refusal of reading
abbrev pub plan_of : Got Net → Lent → Result Plan Refusal
plan_of (got n next) lent = planned_with n.head (length n.segments)
    (build_of every n (length n.segments) most_posts lent)
plan_of (unread r) lent = Err r

-- a lent tree list afterwards: as building leaves it; after a refusal of reading "what it held before"
abbrev pub tree_list : Got Net → Lent → Tree → List ℕ → List ℕ
tree_list (got n next) lent t l = after_build every n (length n.segments) most_posts lent t l
tree_list (unread r) lent t l = l

-- what planning a record leaves, where the three lists held l, s and w: its answer r, and what the lists hold then
pub record Plans (bytes l s w : List ℕ) (r : Result Plan Refusal) (l' s' w' : List ℕ) : Type 0 where
  pub answer : r ≡ plan_of (record_read bytes) (lent_of l s w)
  pub lightest : l' ≡ tree_list (record_read bytes) (lent_of l s w) Lightest l
  pub shortest : s' ≡ tree_list (record_read bytes) (lent_of l s w) Shortest s
  pub between : w' ≡ tree_list (record_read bytes) (lent_of l s w) Between w

-- the same of a net that is at hand: h is its head, and m the number of segments that is claimed
pub record PlansNet (h : Head) (m : ℕ) (n : Net) (l s w : List ℕ) (r : Result Plan Refusal) (l' s' w' : List ℕ) : Type 0 where
  pub answer : r ≡ planned_with h m (build_of every n m most_posts (lent_of l s w))
  pub lightest : l' ≡ after_build every n m most_posts (lent_of l s w) Lightest l
  pub shortest : s' ≡ after_build every n m most_posts (lent_of l s w) Shortest s
  pub between : w' ≡ after_build every n m most_posts (lent_of l s w) Between w

-- REWRITE: what writing answers of the net; room is how many bytes are lent
abbrev pub rewrite_of : Got Net → ℕ → Result ℕ Refusal
rewrite_of (got n next) room = write_answer_of n (length n.segments) most_posts room
rewrite_of (unread r) room = Err r

-- the room afterwards: as writing leaves it; after a refusal of reading "what it held before"
abbrev pub room_of : Got Net → List ℕ → List ℕ
room_of (got n next) room = the_room_after n (length n.segments) most_posts room
room_of (unread r) room = room

-- what writing a record again leaves, where the room held `room`: its answer r, and what the room holds then
pub record Rewrites (bytes room : List ℕ) (r : Result ℕ Refusal) (room' : List ℕ) : Type 0 where
  pub answers : r ≡ rewrite_of (record_read bytes) (length room)
  pub leaves : room' ≡ room_of (record_read bytes) room

-- MARGIN: what margin answers of the net
abbrev pub margin_said : Got Net → Tree → ℕ → B.MarginAnswer
margin_said (got n next) t post = margin_of every n (length n.segments) most_posts t post
margin_said (unread r) t post = B.MarginAnswer.refused r

-- the same in the code's enum
abbrev pub margin_read : List ℕ → Tree → ℕ → MarginAnswer
margin_read bytes t post = margin_answer_of (margin_said (record_read bytes) t post)
