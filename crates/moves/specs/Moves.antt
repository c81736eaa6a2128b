-- "a move that gives each post the house ratio, and a move back": the same net in the form that is wanted; what refuses
-- a move, "all of the reader's first, then 30, place 0, for a record already of the form wanted, then 20, place the
-- lowest post with another ratio, then 18"; the answer, and the room afterwards. Both moves are one, over the form that
-- is wanted. Relies on net's lines of refusals, on writing's `Writing` and `Answers` and on `record_read` of
-- `on_records`. `Rules` says the same without an order of work, and proofs/Ruled joins the two.
use Rattle.std.specs.Prelude.{◌≡◌, Bool, true, false, not, ◌&&◌, ◌||◌, List, [], ◌∷◌, ◌++◌, ℕ, ◌<◌, eqb, length}
use Rattle.std.proofs.Math.Option.{Option, some}
use Rattle.std.specs.Prelude.{Option as Maybe, Some, None}
use Rattle.net.specs.Words.{each, tab}
use Rattle.net.specs.Net.{Ratio, house, Net, net_with, ratio_at}
use Rattle.net.specs.Refusals.{Line, line, first}
use Rattle.net.specs.declared.Form.{Form}
use Rattle.net.specs.declared.Form.TheVariants.{First, Second}
use Rattle.net.specs.declared.Head.{Head}
use Rattle.net.specs.declared.Refusal.{Refusal}
use Rattle.numbers.specs.Numbers.{Got, got, refused as unread}
use Rattle.writing.specs.Writing.{net_written, short_lines, after_writing}
use Rattle.writing.specs.Answers.{Said, refusal_of, said_size, write_answer_by}
use Rattle.on_records.specs.Asked.{record_read}
use Rattle.std.specs.Prelude.{Result, Err}

-- THE SAME NET IN A FORM: the head with that form, and the house ratio for each post, of which a net of the first form
-- keeps nothing, and one of the second all but the source's
abbrev pub the_head_in : Form → Head → Head
the_head_in f h = record { posts = h.posts; source = h.source; p = h.p; q = h.q; form = f }

abbrev pub houses : Head → List Ratio
houses h = tab h.posts (λ _. house h)

unfoldable pub in_form : Form → Net → Net
in_form f n = net_with (the_head_in f n.head) (houses n.head) n.segments

abbrev pub in_second : Net → Net
in_second n = in_form Second n

abbrev pub in_first : Net → Net
in_first n = in_form First n

-- WHAT REFUSES A MOVE of a net to the form that is wanted
abbrev pub the_same_form : Form → Form → Bool
the_same_form First First = true
the_same_form First Second = false
the_same_form Second First = false
the_same_form Second Second = true

-- 30: "a record already of the form wanted"
unfoldable pub form_lines : Form → Net → List Line
form_lines wanted n = line 30 (the_same_form n.head.form wanted) 0 ∷ []

-- "every post's p and q equal the house p and q as numbers": another ratio has another p or another q
abbrev pub the_other_ratio : Head → Ratio → Bool
the_other_ratio h r = not (eqb r.p h.p) || not (eqb r.q h.q)

-- post v isn't the source, and its own ratio is another
abbrev pub the_other_at : Head → List Ratio → ℕ → Bool
the_other_at h own v = not (eqb v h.source) && the_other_ratio h (ratio_at own v)

-- 20: "the lowest post with another ratio", so the posts in rising order; a net of the first form has no own ratios
unfoldable pub other_lines : Net → List Line
other_lines n = each (length n.own) (λ v ls. ls ++ (line 20 (the_other_at n.head n.own v) v ∷ [])) []

-- 30, then 20, then 18 of a room of so many bytes
unfoldable pub move_refusal : Form → Net → ℕ → Option Refusal
move_refusal wanted n room = first (form_lines wanted n
    ++ (other_lines n ++ short_lines room (length (net_written (in_form wanted n)))))

-- THE ANSWER: the length of the record that was written, or a refusal; a refusal of reading comes first
abbrev pub move_of : Form → Got Net → ℕ → Result ℕ Refusal
move_of wanted (got n next) room = write_answer_by (move_refusal wanted n room) (length (net_written (in_form wanted n)))
move_of wanted (unread r) room = Err r

-- the room afterwards: the record followed by what stood there; after a refusal "what it held before"
abbrev pub room_moved : Form → Got Net → List ℕ → List ℕ
room_moved wanted (got n next) room = after_writing (move_refusal wanted n (length room)) (in_form wanted n) room
room_moved wanted (unread r) room = room

-- what a move of a record leaves, where the room held `room`: its answer r, and what the room holds then
pub record Moves (wanted : Form) (bytes room : List ℕ) (r : Result ℕ Refusal) (room' : List ℕ) : Type 0 where
  pub answers : r ≡ move_of wanted (record_read bytes) (length room)
  pub leaves : room' ≡ room_moved wanted (record_read bytes) room

-- "a move that gives each post the house ratio"
abbrev pub ToSecond : List ℕ → List ℕ → Result ℕ Refusal → List ℕ → Type 0
ToSecond = Moves Second

-- "and a move back"
abbrev pub ToFirst : List ℕ → List ℕ → Result ℕ Refusal → List ℕ → Type 0
ToFirst = Moves First

-- the same of a net that is at hand
pub record MovesNet (wanted : Form) (n : Net) (room : List ℕ) (r : Result ℕ Refusal) (room' : List ℕ) : Type 0 where
  pub answers : r ≡ write_answer_by (move_refusal wanted n (length room)) (length (net_written (in_form wanted n)))
  pub leaves : room' ≡ after_writing (move_refusal wanted n (length room)) (in_form wanted n) room

-- WHAT IS TO BE SAID, in document 01's words, and what refuses a move of a record
abbrev pub move_said : Form → Got Net → ℕ → Said ℕ
move_said wanted (got n next) room = said_size (move_refusal wanted n room) (length (net_written (in_form wanted n)))
move_said wanted (unread r) room = refusal_of r

abbrev pub unmoved_of : Form → Got Net → ℕ → Option Refusal
unmoved_of wanted (got n next) room = move_refusal wanted n room
unmoved_of wanted (unread r) room = some r

-- none of k posts has another ratio
abbrev pub NoneOther : Head → List Ratio → ℕ → Type 0
NoneOther h own k = (v : ℕ) → v < k → the_other_at h own v ≡ false

-- r is one of k posts, the lowest with another ratio
pub record LowestAt (h : Head) (own : List Ratio) (k r : ℕ) : Type 0 where
  pub is_post : r < k
  pub none_below : NoneOther h own r
  pub is_other : the_other_at h own r ≡ true

-- the lowest of k posts with another ratio, if one has
abbrev pub LowestOther : Head → List Ratio → ℕ → Maybe ℕ → Type 0
LowestOther h own k None = NoneOther h own k
LowestOther h own k (Some r) = LowestAt h own k r

-- how many posts of a net have a place for an own ratio: none in the first form
abbrev pub the_own_posts : Head → Form → ℕ
the_own_posts h First = 0
the_own_posts h Second = h.posts
