-- "For each, prove that two outcomes allowed by it are equal": of every entry, whatever is handed to it, two answers
-- that its own contract allows are equal, and so is what everything that is lent holds in the end (`OneOutcome`,
-- specs/Contracts). The contract of `put_number`, which hands back a part of a lent room, fixes what that part holds.
use Rattle.std.specs.Prelude.{◌≡◌}
use Rattle.promises.specs.Promised.{Alike, OneOutcome}
use Rattle.promises.specs.Entries as entry

pub record Unique : Type 2 where
  -- over a lent list of segments
  pub build : OneOutcome entry.build
  pub margin : OneOutcome entry.margin
  pub write : OneOutcome entry.write
  pub read : OneOutcome entry.read
  -- of a drawn run
  pub drawn : OneOutcome entry.drawn
  -- on records
  pub plan : OneOutcome entry.plan
  pub rewrite : OneOutcome entry.rewrite
  pub record_margin : OneOutcome entry.record_margin
  pub record_check : OneOutcome entry.record_check
  pub to_second : OneOutcome entry.to_second
  pub to_first : OneOutcome entry.to_first
  -- for C
  pub c_check : OneOutcome entry.c_check
  pub c_plan : OneOutcome entry.c_plan
  pub c_rewrite : OneOutcome entry.c_rewrite
  pub c_to_second : OneOutcome entry.c_to_second
  pub c_to_first : OneOutcome entry.c_to_first
  pub c_margin : OneOutcome entry.c_margin
  pub c_drawn : OneOutcome entry.c_drawn
  -- of the programs: the text of one, and what the other hands on
  pub print : OneOutcome entry.print
  pub hand_on : OneOutcome entry.hand_on
  -- over plain lists
  pub build_lists : OneOutcome entry.build_lists
  pub margin_lists : OneOutcome entry.margin_lists
  pub write_lists : OneOutcome entry.write_lists
  pub read_lists : OneOutcome entry.read_lists
  pub check_record : OneOutcome entry.check_record
  -- of a number of a record, and of a reader
  pub number_at : OneOutcome entry.number_at
  pub number_size : OneOutcome entry.number_size
  pub put_number : Alike entry.put_number (λ κs x r e q o. r.now ≡ q.now)
  pub reader_new : OneOutcome entry.reader_new
  pub reader_number : OneOutcome entry.reader_number
  pub reader_moved : OneOutcome entry.reader_moved
  pub reader_behind : OneOutcome entry.reader_behind
  -- 1 to 7
  pub check_head : OneOutcome entry.check_head
  pub check_ratio : OneOutcome entry.check_ratio
  pub check_own : OneOutcome entry.check_own
  pub check_numbers : OneOutcome entry.check_numbers
  pub check_segment : OneOutcome entry.check_segment
  pub check : OneOutcome entry.check
  pub segment_count : OneOutcome entry.segment_count
