-- WHAT EACH ENTRY'S OWN CONTRACT SAYS: it asks nothing of its caller, and every outcome that it allows, the answer and
-- what is lent in the end, is one of which the demands and Unique speak. So they hold of the functions as they stand: a
-- function that loses its `ensures`, or whose contract says less, no longer proves its row. In a row stand first what
-- is handed over, then the answer, then what is left; `_` is what a row doesn't speak of. `now` is what a lent list
-- holds at the call.
use Rattle.std.specs.Prelude.{◌≡◌, length}
use denote.Ref.{at_last}
use Rattle.net.specs.Net.{every, most_posts, most_segments, own_of}
use Rattle.net.specs.Ready.{net_in, ratios_in, segments_in, ratio_count_in, count_in}
use Rattle.net.specs.Refusals.{checked_of, first, head_lines, ratio_lines, own_lines, segment_lines, check_of}
use Rattle.net.specs.Building.{margin_of}
use Rattle.net.specs.declared.Form.TheVariants.{First, Second}
use Rattle.crossings.specs.Lists.{net_on}
use Rattle.building.specs.Answers.{Leaves}
use Rattle.margins.specs.Answers.{margin_answer_of}
use Rattle.numbers.specs.Numbers.{number, written}
use Rattle.numbers.specs.Answers.{numbered_of, behind_of}
use Rattle.numbers.specs.Putting.{part_of, Fits}
use Rattle.reading.specs.Reading.{net_read}
use Rattle.reading.specs.Answers.{ReadsLists, check_read}
use Rattle.writing.specs.Answers.{Writes}
use Rattle.on_segments.specs.Reading.{Reads}
use Rattle.on_records.specs.Asked.{record_read, Plans, Rewrites, margin_read}
use Rattle.moves.specs.Moves.{ToSecond, ToFirst}
use Rattle.printing.specs.Printed.{Prints}
use Rattle.moving.specs.Handing.{HandsOn}
use Rattle.c_numbers.specs.Named.{the_run_named}
use Rattle.c_calls.specs.Numbers.{check_number, drawn_number}
use Rattle.c_calls.specs.Left.{PlanLeaves, RewriteLeaves, MoveLeaves, MarginLeaves}
use Rattle.drawn.specs.Drawn.{drawn_of}
use Rattle.promises.specs.Promised.{Function, Times, Handed, Answer, Left, AsksNothing, Says}
use Rattle.promises.specs.Entries as entry

-- the contract of f asks nothing and says Φ
pub record Keeps (f : Function) (Φ : (κs : Times f) (x : Handed f κs) → Answer f κs → Left f κs x → Type 0) : Type 2
  where
    pub asks_nothing : AsksNothing f
    pub says : Says f Φ

pub record Tied : Type 2 where
  -- over a lent list of segments
  pub build : Keeps entry.build
      (λ κs (h, (own, (segments, (l, (s, (w, _)))))) a (_, (_, (_, (l', (s', (w', _)))))).
      Leaves (net_on h own.p.now own.q.now segments.now) (length segments.now) (ratio_count_in own)
      l.now s.now w.now a l' s' w')
  pub margin : Keeps entry.margin (λ κs (h, (own, (segments, (tree, (post, _))))) a _.
      a ≡ margin_answer_of (margin_of every (net_on h own.p.now own.q.now segments.now) (length segments.now)
      (ratio_count_in own) tree post))
  pub write : Keeps entry.write (λ κs (h, (own, (segments, (room, _)))) a (_, (_, (_, (room', _)))).
      Writes (net_on h own.p.now own.q.now segments.now) (length segments.now) (ratio_count_in own) room.now a room')
  pub read : Keeps entry.read (λ κs (bytes, (p, (q, (l, _)))) a (_, (p', (q', (l', _)))).
      Reads bytes.now p.now q.now l.now a p' q' l')
  pub drawn : Keeps entry.drawn (λ κs (run, _) a _. a ≡ drawn_of run)
  -- on records
  pub plan : Keeps entry.plan (λ κs (bytes, (l, (s, (w, _)))) a (_, (l', (s', (w', _)))).
      Plans bytes.now l.now s.now w.now a l' s' w')
  pub rewrite : Keeps entry.rewrite (λ κs (bytes, (room, _)) a (_, (room', _)). Rewrites bytes.now room.now a room')
  pub record_margin : Keeps entry.record_margin (λ κs (bytes, (tree, (post, _))) a _.
      a ≡ margin_read bytes.now tree post)
  pub record_check : Keeps entry.record_check (λ κs (bytes, _) a _. a ≡ check_read (record_read bytes.now))
  pub to_second : Keeps entry.to_second (λ κs (bytes, (room, _)) a (_, (room', _)).
      ToSecond bytes.now room.now a room')
  pub to_first : Keeps entry.to_first (λ κs (bytes, (room, _)) a (_, (room', _)).
      ToFirst bytes.now room.now a room')
  -- for C
  pub c_check : Keeps entry.c_check (λ κs (bytes, _) a _. a ≡ check_number (check_read (record_read bytes.now)))
  pub c_plan : Keeps entry.c_plan (λ κs (bytes, (l, (s, (w, (d, _))))) a (_, (l', (s', (w', (d', _))))).
      PlanLeaves bytes.now l.now s.now w.now d.now a l' s' w' d')
  pub c_rewrite : Keeps entry.c_rewrite (λ κs (bytes, (room, _)) a (_, (room', _)).
      RewriteLeaves bytes.now room.now a room')
  pub c_to_second : Keeps entry.c_to_second (λ κs (bytes, (room, _)) a (_, (room', _)).
      MoveLeaves Second bytes.now room.now a room')
  pub c_to_first : Keeps entry.c_to_first (λ κs (bytes, (room, _)) a (_, (room', _)).
      MoveLeaves First bytes.now room.now a room')
  pub c_margin : Keeps entry.c_margin (λ κs (bytes, (tree, (post, (d, _)))) a (_, (_, (_, (d', _)))).
      MarginLeaves bytes.now tree post d.now a d')
  pub c_drawn : Keeps entry.c_drawn (λ κs (corner, (first, (second, _))) a _.
      a ≡ drawn_number (drawn_of (the_run_named corner first second)))
  -- the programs: the text of one, and what the other hands on
  pub print : Keeps entry.print (λ κs (input, (n, (out, _))) r (_, (_, (out', _))).
      Prints input.now n out.now r out')
  pub hand_on : Keeps entry.hand_on (λ κs (way, (input, (n, (out, _)))) r (_, (_, (_, (out', _)))).
      HandsOn way input.now n out.now r out')
  -- over plain lists
  pub build_lists : Keeps entry.build_lists
      (λ κs (net, (l, (s, (w, _)))) r (_, (l', (s', (w', _)))).
      Leaves (net_in net) (count_in net.segments) (ratio_count_in net.own) l.now s.now w.now r l' s' w')
  pub margin_lists : Keeps entry.margin_lists (λ κs (net, (tree, (post, _))) r _.
      r ≡ margin_answer_of (margin_of every (net_in net) (count_in net.segments) (ratio_count_in net.own) tree post))
  pub write_lists : Keeps entry.write_lists
      (λ κs (net, (room, _)) r (_, (room', _)).
      Writes (net_in net) (count_in net.segments) (ratio_count_in net.own) room.now r room')
  pub read_lists : Keeps entry.read_lists
      (λ κs (bytes, (p, (q, (a, (b, (lengths, _)))))) r (_, (p', (q', (a', (b', (lengths', _)))))).
      ReadsLists bytes.now p.now q.now a.now b.now lengths.now r p' q' a' b' lengths')
  pub check_record : Keeps entry.check_record (λ κs (bytes, _) r _.
      r ≡ check_read (net_read bytes.now most_segments most_posts 0))
  -- a number of a record, and a reader of it
  pub number_at : Keeps entry.number_at (λ κs (bytes, (at, _)) r _. r ≡ numbered_of (number bytes.now at))
  pub number_size : Keeps entry.number_size (λ κs (n, _) r _. r ≡ length (written n))
  pub put_number : Keeps entry.put_number (λ κs (room, (n, _)) r _. (r.now ≡ part_of n room.now)
      × (Fits n room.now → r ≡ at_last room (written n)))
  pub reader_new : Keeps entry.reader_new (λ κs (bytes, _) r _. r ≡ record { bytes = bytes; at = 0 })
  pub reader_number : Keeps entry.reader_number (λ κs (r, _) n _. n ≡ numbered_of (number r.bytes.now r.at))
  pub reader_moved : Keeps entry.reader_moved (λ κs (r, (at, _)) q _. q ≡ record { bytes = r.bytes; at = at })
  pub reader_behind : Keeps entry.reader_behind (λ κs (n, _) r _. r ≡ behind_of n)
  -- 1 to 7
  pub check_head : Keeps entry.check_head (λ κs (h, (count, _)) r _. r ≡ checked_of (first (head_lines h count)))
  pub check_ratio : Keeps entry.check_ratio (λ κs (p, (q, (v, _))) r _.
      r ≡ checked_of (first (ratio_lines v (record { p = p; q = q }))))
  pub check_own : Keeps entry.check_own (λ κs (h, (own, _)) r _.
      r ≡ checked_of (first (own_lines h (own_of h (ratios_in own)))))
  pub check_numbers : Keeps entry.check_numbers (λ κs (posts, (a, (b, (l, (i, _))))) r _.
      r ≡ checked_of (first (segment_lines posts (record { a = a; b = b; length = l }) i)))
  pub check_segment : Keeps entry.check_segment (λ κs (posts, (s, (i, _))) r _.
      r ≡ checked_of (first (segment_lines posts s i)))
  pub check : Keeps entry.check (λ κs (net, _) r _.
      r ≡ check_of net.head (ratios_in net.own) (segments_in net.segments))
  pub segment_count : Keeps entry.segment_count (λ κs (segments, _) r _. r ≡ count_in segments)
