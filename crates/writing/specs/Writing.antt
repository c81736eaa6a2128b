-- Writing a record: "post count, source, p, q, segment count, then for each segment its two posts in the order given
-- and its length", and in the second form "a first number 0, then the old head, then p and q for each post but the
-- source in rising order, then the segments", each number as the crate `numbers` has it; its refusals, 1 to 7, then 8
-- of the ratios that are lent, then 18, and the room afterwards. Relies on `numbers` and on net's lines of refusals.
use Rattle.std.specs.Prelude.{ℕ, zero, suc, ◌+◌, Bool, true, false, List, [], ◌∷◌, ◌++◌, eqb, ltb, length}
use Rattle.std.proofs.Math.Option.{Option, none, some}
use Rattle.net.specs.Net.{Ratio, Net, every, ratio_at}
use Rattle.net.specs.Refusals.{Line, line, first, net_lines, room_of_ratios}
use Rattle.net.specs.declared.Segment.{Segment}
use Rattle.net.specs.declared.Form.{Form}
use Rattle.net.specs.declared.Form.TheVariants.{First, Second}
use Rattle.net.specs.declared.Head.{Head}
use Rattle.net.specs.declared.Refusal.{Refusal}
use Rattle.numbers.specs.Numbers.{written}
use Rattle.numbers.specs.Putting.{onto}

-- "a first number 0" in the second form
unfoldable pub form_written : Form → List ℕ
form_written First = []
form_written Second = written 0

-- "post count, source, p, q, segment count"
unfoldable pub numbers_written : Head → ℕ → List ℕ
numbers_written h count =
    written h.posts ++ (written h.source ++ (written h.p ++ (written h.q ++ written count)))

unfoldable pub head_written : Head → ℕ → List ℕ
head_written h count = form_written h.form ++ numbers_written h count

-- "p and q"
unfoldable pub ratio_written : Ratio → List ℕ
ratio_written r = written r.p ++ written r.q

-- a post's own ratio; of the source nothing is written
abbrev pub unless_source : Bool → List ℕ → List ℕ
unless_source true w = []
unless_source false w = w

unfoldable pub post_written : ℕ → List Ratio → ℕ → List ℕ
post_written source own v = unless_source (eqb v source) (ratio_written (ratio_at own v))

-- "for each post but the source in rising order": k posts, the first of them post v
unfoldable pub posts_written : ℕ → List Ratio → ℕ → ℕ → List ℕ
posts_written source own v zero = []
posts_written source own v (suc k) = post_written source own v ++ posts_written source own (v + 1) k

-- the posts' own ratios: none in the first form
abbrev pub own_in : Form → ℕ → List Ratio → List ℕ
own_in First source own = []
own_in Second source own = posts_written source own 0 (length own)

unfoldable pub own_written : Head → List Ratio → List ℕ
own_written h own = own_in h.form h.source own

unfoldable pub segment_written : Segment → List ℕ
segment_written s = written s.a ++ (written s.b ++ written s.length)

unfoldable pub segments_written : List Segment → List ℕ
segments_written [] = []
segments_written (s ∷ ss) = segment_written s ++ segments_written ss

-- the record of a net
unfoldable pub net_written : Net → List ℕ
net_written n = head_written n.head (length n.segments)
    ++ (own_written n.head n.own ++ segments_written n.segments)

-- 18: "room for the written record too short"
unfoldable pub short_lines : ℕ → ℕ → List Line
short_lines room size = line 18 (ltb room size) 0 ∷ []

-- what comes behind 1 to 7: 8 of k ratios that are lent, then 18 of a room of so many bytes
abbrev pub write_lines : Net → ℕ → ℕ → List Line
write_lines n k room = room_of_ratios n.head.posts k ++ short_lines room (length (net_written n))

-- 1 to 7, then 8, then 18. m is the number of segments that is claimed, k how many ratios are lent, room how many
-- bytes
unfoldable pub write_refusal : Net → ℕ → ℕ → ℕ → Option Refusal
write_refusal n m k room = first (net_lines every m n ++ write_lines n k room)

-- the room afterwards: the record followed by what stood there; after a refusal "what it held before"
abbrev pub after_writing : Option Refusal → Net → List ℕ → List ℕ
after_writing none n l = onto (net_written n) l
after_writing (some r) n l = l

unfoldable pub the_room_after : Net → ℕ → ℕ → List ℕ → List ℕ
the_room_after n m k l = after_writing (write_refusal n m k (length l)) n l
