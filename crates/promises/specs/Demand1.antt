-- Demand 1: "No input makes it fail. Every entry refuses a bad net, record, length or room by itself, with the number
-- and place of document 01; a refusal changes nothing in lent memory. An otherwise sound net is refused as not joined
-- exactly when some post has no route to the source." For every head, of either form, and whatever ratios and segments
-- are lent with it. First the rules: document 01's rules, one for each number, give one answer for every input
-- (`by_the_rules`, `no_other`). Then every entry, over its own contract (`Says`, specs/Contracts), whatever is handed
-- to it: where the rules refuse, every outcome is that refusal, and what was lent is as it was (`refuses`); an outcome
-- is a refusal only where they refuse (`only_then`); for C it is otherwise a result (`otherwise`). Of a record both are
-- said of reading and then of the net that was read (`OnRecord`). The rules stand in net/specs/Rules,
-- numbers/specs/Rules, writing/specs/Rules, reading/specs/Rules, moves/specs/Rules and drawn/specs/Rules. What an
-- answer says, its number and values, is `says_of`, `margin_says_of`, `says_by`, `says_written`, `says_planned`, `checkSays`
-- and, for C, `packed` and `marked`.
use Rattle.std.specs.Prelude.{◌≡◌, ◌↔◌, List, ℕ, ◌≤◌, ◌<◌, ◌^◌, length, take}
use Rattle.std.proofs.Math.Option.{Option, some}
use Rattle.net.specs.Net.{Ratio, Net, every, ratios_of, segments_of, most_posts, most_segments}
use Rattle.net.specs.Ready.{net_in, ratio_count_in, count_in}
use Rattle.net.specs.Refusals.{Lent, refusal, says_of as checkSays}
use Rattle.net.specs.Rules.{NetSound, LongEnough, Joined, LowestApart, BuildRule, MarginRule}
use Rattle.net.specs.Building.{refused, build_refusal, margin_refusal}
use Rattle.net.specs.Building as B
use Rattle.net.specs.declared.Form.{Form}
use Rattle.net.specs.declared.Form.TheVariants.{First, Second}
use Rattle.net.specs.declared.Segment.{Segment}
use Rattle.net.specs.declared.Refusal.{Refusal}
use Rattle.crossings.specs.Lists.{net_on}
use Rattle.building.specs.Answers.{lent_of, says_of}
use Rattle.margins.specs.Answers.{margin_says_of}
use Rattle.numbers.specs.Numbers.{Bytes, Got, got, refused as unread}
use Rattle.reading.specs.Reading.{longest_record, net_read}
use Rattle.writing.specs.Writing.{net_written, write_refusal}
use Rattle.reading.specs.Rules.{ReadRule}
use Rattle.writing.specs.Rules.{WriteRule}
use Rattle.reading.specs.Answers.{says_by}
use Rattle.writing.specs.Answers.{refusal_of, says_written}
use Rattle.on_records.specs.Asked.{record_read}
use Rattle.on_records.specs.Says.{says_planned}
use Rattle.moves.specs.Moves.{in_second, in_first, move_refusal, unmoved_of}
use Rattle.moves.specs.Rules.{MoveRule}
use Rattle.lines.specs.Text.{refused_line}
use Rattle.moving.specs.Handing.{the_wanted_by, for_error, Hands}
use Rattle.c_numbers.specs.Named.{packed, marked, the_run_named}
use Rattle.drawn.specs.Says.{Says as Said, sixteenths, refused as undrawn, says_of as drawn_says}
use Rattle.drawn.specs.Rules.{Answers}
use Rattle.promises.specs.Promised.{Says}
use Rattle.promises.specs.Moves.{BackExactly}
use Rattle.promises.specs.Entries as entry
use Rattle.net.specs.Refusals.{Checked}
use Rattle.margins.specs.Answers.{MarginAnswer}
use Rattle.net.specs.declared.Counted.{Counted}
use Rattle.building.specs.Answers.{Answer}
use Rattle.std.specs.Prelude.{Result, Err}

-- THE RULES, of building a net n that claims m segments and for which k ratios are lent, with three lists of these
-- lengths
pub record BuildRules (n : Net) (m k : ℕ) (lent : Lent) : Type 0 where
  pub by_the_rules : BuildRule every m n k lent (build_refusal every n m k lent)
  pub no_other : (r : Option Refusal) → BuildRule every m n k lent r → r ≡ build_refusal every n m k lent
  -- 9 exactly when nothing before it holds, that post has no route and every lower one has
  pub nine : (v : ℕ) → (build_refusal every n m k lent ≡ some (refusal 9 v))
      ↔ (NetSound every m n × LongEnough n lent × (n.head.posts ≤ k) × LowestApart every n v)
  -- an otherwise sound net is refused as not joined exactly when some post has no route to the source
  pub not_joined : NetSound every m n → LongEnough n lent → n.head.posts ≤ k
      → ((v : ℕ) × (build_refusal every n m k lent ≡ some (refusal 9 v)))
      ↔ ((v : ℕ) × (v < n.head.posts) × (Joined every n v → ⊥))

-- of the margin of a post
pub record MarginRules (n : Net) (m k post : ℕ) : Type 0 where
  pub by_the_rules : MarginRule every m n k post (margin_refusal every n m k post)
  pub no_other : (r : Option Refusal) → MarginRule every m n k post r → r ≡ margin_refusal every n m k post

-- of reading bytes, each below 256 (`Bytes`), with room for so many segments and so many ratios
pub record ReadRules (bytes : List ℕ) (room ratioRoom : ℕ) : Type 0 where
  pub by_the_rules : Bytes bytes → ReadRule bytes room ratioRoom (net_read bytes room ratioRoom 0)
  pub no_other : (g : Got Net) → ReadRule bytes room ratioRoom g → net_read bytes room ratioRoom 0 ≡ g

-- of writing into a room of so many bytes
pub record WriteRules (n : Net) (m k room : ℕ) : Type 0 where
  pub by_the_rules : WriteRule m n k room (write_refusal n m k room)
  pub no_other : (r : Option Refusal) → WriteRule m n k room r → r ≡ write_refusal n m k room

-- of moving bytes, each below 256 (`Bytes`), to the form that is wanted, into a room of so many bytes
pub record MoveRules (wanted : Form) (bytes : List ℕ) (room : ℕ) : Type 0 where
  pub by_the_rules : Bytes bytes → MoveRule wanted bytes room (unmoved_of wanted (record_read bytes) room)
  pub no_other : (r : Option Refusal) → MoveRule wanted bytes room r → r ≡ unmoved_of wanted (record_read bytes) room

-- OF AN OUTCOME: `rules r` is that the rules refuse with r, `says r` that the answer is this refusal, and `kept` that
-- everything that was lent is as it was
pub record Refuses (rules says : Refusal → Type 0) (kept : Type 0) : Type 0 where
  pub refuses : (r : Refusal) → rules r → says r × kept
  pub only_then : (r : Refusal) → says r → rules r

-- the same of an answer that is one number: where the rules don't refuse it is a result
pub record RefusesInNumber (rules says : Refusal → Type 0) (kept result : Type 0) : Type 0 where
  pub refuses : (r : Refusal) → rules r → says r × kept
  pub otherwise : ((r : Refusal) → rules r → ⊥) → result

-- BUILDING a net n that claims m segments and for which k ratios are lent, where three lists held l, s and w
abbrev pub BuildRefuses : Net → ℕ → ℕ → List ℕ → List ℕ → List ℕ → Answer → List ℕ → List ℕ → List ℕ → Type 0
BuildRefuses n m k l s w a l' s' w' = Refuses (λ r. build_refusal every n m k (lent_of l s w) ≡ some r)
    (λ r. says_of a ≡ refused r) ((l' ≡ l) × (s' ≡ s) × (w' ≡ w))

-- THE MARGIN of a post; nothing that is lent for it can change
abbrev pub MarginRefuses : Net → ℕ → ℕ → ℕ → MarginAnswer → Type 0
MarginRefuses n m k post a = Refuses (λ r. margin_refusal every n m k post ≡ some r)
    (λ r. margin_says_of a ≡ B.MarginAnswer.refused r) (Unit {0})

-- WRITING a net n that claims m segments and for which k ratios are lent, where the room held those bytes
abbrev pub WriteRefuses : Net → ℕ → ℕ → List ℕ → Result ℕ Refusal → List ℕ → Type 0
WriteRefuses n m k room a x = Refuses (λ r. write_refusal n m k (length room) ≡ some r)
    (λ r. says_written a ≡ refusal_of r) (x ≡ room)

-- READING, with room for so many segments and so many ratios, which are then these
abbrev pub ReadRefuses : List ℕ → ℕ → ℕ → Result Counted Refusal → List Ratio → List Segment → Type 0 → Type 0
ReadRefuses bytes room ratioRoom a ratios segments kept = Refuses (λ r. net_read bytes room ratioRoom 0 ≡ unread r)
    (λ r. says_by a ratios segments ≡ refusal_of r) kept

-- CHECKING a record, of which reading says g
abbrev pub CheckRefuses : Got Net → Checked → Type 0
CheckRefuses g a = Refuses (λ r. g ≡ unread r) (λ r. checkSays a ≡ some r) (Unit {0})

-- ON A RECORD: reading refuses it, or what is done with the net that was read is refused
pub data OnRecord (bytes : List ℕ) (refusing : Net → Option Refusal) (r : Refusal) : Type 0 where
  by_reading : record_read bytes ≡ unread r → OnRecord bytes refusing r
  by_net : (n : Net) (next : ℕ) → record_read bytes ≡ got n next → refusing n ≡ some r → OnRecord bytes refusing r

-- planning it, with three lists of these lengths; writing it again, and moving it to the form that is wanted, into a
-- room of so many bytes; the margin of a post.
-- There are places for the ratios of as many posts as a net may have
abbrev pub Unplanned : List ℕ → Lent → Refusal → Type 0
Unplanned bytes lent = OnRecord bytes (λ n. build_refusal every n (length n.segments) most_posts lent)

abbrev pub Unwritten : List ℕ → ℕ → Refusal → Type 0
Unwritten bytes room = OnRecord bytes (λ n. write_refusal n (length n.segments) most_posts room)

abbrev pub Unmoved : Form → List ℕ → ℕ → Refusal → Type 0
Unmoved wanted bytes room = OnRecord bytes (λ n. move_refusal wanted n room)

abbrev pub Unmeasured : List ℕ → ℕ → Refusal → Type 0
Unmeasured bytes post = OnRecord bytes (λ n. margin_refusal every n (length n.segments) most_posts post)

-- HANDING ON what was moved, with room for the longest record: where the rules refuse, the line of that refusal stands
-- at the front of the room, and behind it the room is as it was; a line is handed on only where they refuse
pub record HandRefuses (wanted : Form) (bytes out : List ℕ) (a : Result ℕ ℕ) (x : List ℕ) : Type 0 where
  pub refuses : (r : Refusal) → Unmoved wanted bytes longest_record r
      → Hands (for_error (refused_line r.number r.place)) out a x
  pub only_then : (size : ℕ) → a ≡ Err size → (r : Refusal) × Unmoved wanted bytes longest_record r

-- EVERY ENTRY, whatever is handed to it
pub record Demand1 : Type 2 where
  pub build_rules : (n : Net) (m k : ℕ) (lent : Lent) → BuildRules n m k lent
  pub margin_rules : (n : Net) (m k post : ℕ) → MarginRules n m k post
  pub read_rules : (bytes : List ℕ) (room ratioRoom : ℕ) → ReadRules bytes room ratioRoom
  pub write_rules : (n : Net) (m k room : ℕ) → WriteRules n m k room
  pub move_rules : (wanted : Form) (bytes : List ℕ) (room : ℕ) → MoveRules wanted bytes room
  -- over a lent list of segments
  pub build : Says entry.build
      (λ κs (h, (own, (segments, (l, (s, (w, _)))))) a (_, (_, (_, (l', (s', (w', _)))))).
      BuildRefuses (net_on h own.p.now own.q.now segments.now) (length segments.now) (ratio_count_in own)
      l.now s.now w.now a l' s' w')
  pub margin : Says entry.margin (λ κs (h, (own, (segments, (_, (post, _))))) a _.
      MarginRefuses (net_on h own.p.now own.q.now segments.now) (length segments.now) (ratio_count_in own) post a)
  pub read : Says entry.read (λ κs (bytes, (p, (q, (l, _)))) a (_, (p', (q', (l', _)))).
      ReadRefuses bytes.now (length l.now) (length (ratios_of p.now q.now)) a (ratios_of p' q') l'
      ((p' ≡ p.now) × (q' ≡ q.now) × (l' ≡ l.now)))
  pub write : Says entry.write (λ κs (h, (own, (segments, (room, _)))) a (_, (_, (_, (x, _)))).
      WriteRefuses (net_on h own.p.now own.q.now segments.now) (length segments.now) (ratio_count_in own) room.now a x)
  -- over plain lists
  pub build_lists : Says entry.build_lists
      (λ κs (net, (l, (s, (w, _)))) r (_, (l', (s', (w', _)))).
      BuildRefuses (net_in net) (count_in net.segments) (ratio_count_in net.own)
      l.now s.now w.now r l' s' w')
  pub margin_lists : Says entry.margin_lists (λ κs (net, (_, (post, _))) r _.
      MarginRefuses (net_in net) (count_in net.segments) (ratio_count_in net.own) post r)
  pub read_lists : Says entry.read_lists
      (λ κs (bytes, (p, (q, (a, (b, (lengths, _)))))) r (_, (p', (q', (a', (b', (lengths', _)))))).
      ReadRefuses bytes.now (length (segments_of a.now b.now lengths.now)) (length (ratios_of p.now q.now)) r
      (ratios_of p' q') (segments_of a' b' lengths')
      ((p' ≡ p.now) × (q' ≡ q.now) × (a' ≡ a.now) × (b' ≡ b.now) × (lengths' ≡ lengths.now)))
  pub write_lists : Says entry.write_lists
      (λ κs (net, (room, _)) r (_, (x, _)).
      WriteRefuses (net_in net) (count_in net.segments) (ratio_count_in net.own) room.now r x)
  pub check_record : Says entry.check_record (λ κs (bytes, _) a _.
      CheckRefuses (net_read bytes.now most_segments most_posts 0) a)
  -- on records
  pub plan : Says entry.plan (λ κs (bytes, (l, (s, (w, _)))) a (_, (l', (s', (w', _)))).
      Refuses (Unplanned bytes.now (lent_of l.now s.now w.now)) (λ r. says_planned a ≡ refusal_of r)
      ((l' ≡ l.now) × (s' ≡ s.now) × (w' ≡ w.now)))
  pub rewrite : Says entry.rewrite (λ κs (bytes, (room, _)) a (_, (x, _)).
      Refuses (Unwritten bytes.now (length room.now)) (λ r. says_written a ≡ refusal_of r) (x ≡ room.now))
  pub record_margin : Says entry.record_margin (λ κs (bytes, (_, (post, _))) a _.
      Refuses (Unmeasured bytes.now post) (λ r. margin_says_of a ≡ B.MarginAnswer.refused r) (Unit {0}))
  pub record_check : Says entry.record_check (λ κs (bytes, _) a _. CheckRefuses (record_read bytes.now) a)
  pub to_second : Says entry.to_second (λ κs (bytes, (room, _)) a (_, (x, _)).
      Refuses (Unmoved Second bytes.now (length room.now)) (λ r. says_written a ≡ refusal_of r) (x ≡ room.now))
  pub to_first : Says entry.to_first (λ κs (bytes, (room, _)) a (_, (x, _)).
      Refuses (Unmoved First bytes.now (length room.now)) (λ r. says_written a ≡ refusal_of r) (x ≡ room.now))
  -- "Back is possible exactly if every post's p and q equal the house p and q as numbers."
  pub back_exactly : Says entry.to_first (λ κs (bytes, _) a _. BackExactly bytes.now a)
  -- by the program that moves, of as much as it read
  pub hand_on : Says entry.hand_on (λ κs (way, (input, (n, (out, _)))) a (_, (_, (_, (x, _)))).
      HandRefuses (the_wanted_by way) (take n input.now) out.now a x)
  -- for C: 0 or a length, or the refusal's number and place in one number
  pub c_check : Says entry.c_check (λ κs (bytes, _) a _.
      RefusesInNumber (λ r. record_read bytes.now ≡ unread r) (λ r. a ≡ packed r) (Unit {0}) (a ≡ 0))
  pub c_plan : Says entry.c_plan (λ κs (bytes, (l, (s, (w, (d, _))))) a (_, (l', (s', (w', (d', _))))).
      RefusesInNumber (Unplanned bytes.now (lent_of l.now s.now w.now)) (λ r. a ≡ packed r)
      ((l' ≡ l.now) × (s' ≡ s.now) × (w' ≡ w.now) × (d' ≡ d.now)) (a ≡ 0))
  pub c_rewrite : Says entry.c_rewrite (λ κs (bytes, (room, _)) a (_, (x, _)).
      RefusesInNumber (Unwritten bytes.now (length room.now)) (λ r. a ≡ marked r) (x ≡ room.now)
      ((n : Net) (next : ℕ) → record_read bytes.now ≡ got n next → a ≡ length (net_written n)))
  pub c_to_second : Says entry.c_to_second (λ κs (bytes, (room, _)) a (_, (x, _)).
      RefusesInNumber (Unmoved Second bytes.now (length room.now)) (λ r. a ≡ marked r) (x ≡ room.now)
      ((n : Net) (next : ℕ) → record_read bytes.now ≡ got n next → a ≡ length (net_written (in_second n))))
  pub c_to_first : Says entry.c_to_first (λ κs (bytes, (room, _)) a (_, (x, _)).
      RefusesInNumber (Unmoved First bytes.now (length room.now)) (λ r. a ≡ marked r) (x ≡ room.now)
      ((n : Net) (next : ℕ) → record_read bytes.now ≡ got n next → a ≡ length (net_written (in_first n))))
  pub c_margin : Says entry.c_margin (λ κs (bytes, (_, (post, (d, _)))) a (_, (_, (_, (d', _)))).
      RefusesInNumber (Unmeasured bytes.now post) (λ r. a ≡ packed r) (d' ≡ d.now) (a ≡ 0))
  pub c_drawn : Says entry.c_drawn (λ κs (corner, (first, (second, _))) a _.
      RefusesInNumber (λ r. Answers (the_run_named corner first second) (undrawn r.number r.place)) (λ r. a ≡ marked r)
      (Unit {0}) ((k : ℕ) → Answers (the_run_named corner first second) (sixteenths k) → a ≡ k))
  -- no two refusals have one number there, and no length has a refusal's
  pub packed_apart : (r q : Refusal) → r.place < 2 ^ 32 → q.place < 2 ^ 32 → packed r ≡ packed q → r ≡ q
  pub marked_apart : (r q : Refusal) → r.place < 2 ^ 32 → q.place < 2 ^ 32 → marked r ≡ marked q → r ≡ q
  pub no_length : (r : Refusal) (k : ℕ) → k < 2 ^ 32 → k ≡ marked r → ⊥
  -- a drawn run: what an answer says is a length or a refusal with number and place
  pub drawn : Says entry.drawn (λ κs (run, _) a _. Answers run (drawn_says a))
  pub drawn_no_other : Says entry.drawn (λ κs (run, _) a _. (s : Said) → Answers run s → drawn_says a ≡ s)
  -- "16 is no longer given"
  pub no_sixteen : Says entry.drawn (λ κs (run, _) a _. (place : ℕ) → drawn_says a ≡ undrawn 16 place → ⊥)
