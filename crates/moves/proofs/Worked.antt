-- The table of worked moves holds: every row is computed from the definitions.
use mathlib.Core.Path.{refl}
use Rattle.net.specs.Net.{own_of}
use Rattle.net.specs.Refusals.{first, head_lines, ratio_lines, segment_lines, room_of_ratios}
use Rattle.numbers.specs.Numbers.{groups, written, groups_at, number}
use Rattle.reading.specs.Reading.{hold, room_lines, formed, headed, heading, ratio, post, posts, the_own_read, segment, segments, ended, last_read, rest_read, net_read}
use Rattle.writing.specs.Writing.{form_written, numbers_written, head_written, ratio_written, post_written, posts_written, own_written, segment_written, segments_written, net_written, short_lines}
use Rattle.on_records.specs.Asked.{record_read}
use Rattle.moves.specs.Moves.{in_form, form_lines, other_lines, move_refusal}
use Rattle.moves.specs.Worked.{MovesWorked}

pub moves_worked : MovesWorked
unfolding groups written groups_at number first head_lines ratio_lines segment_lines room_of_ratios
    hold room_lines formed headed heading ratio post posts the_own_read segment segments ended last_read rest_read net_read
    own_of form_written numbers_written head_written ratio_written post_written posts_written own_written segment_written segments_written net_written short_lines
    record_read in_form form_lines other_lines move_refusal
moves_worked = record {
  a_forward = record { answers = refl; leaves = refl };
  a_forward_short = record { answers = refl; leaves = refl };
  a_back = record { answers = refl; leaves = refl };
  a_back_short = record { answers = refl; leaves = refl };
  source_0 = record { answers = refl; leaves = refl };
  source_1 = record { answers = refl; leaves = refl };
  two_bytes = record { answers = refl; leaves = refl };
  one_forward = record { answers = refl; leaves = refl };
  one_back = record { answers = refl; leaves = refl };
  apart = record { answers = refl; leaves = refl };
  thirty_forward = record { answers = refl; leaves = refl };
  thirty_back = record { answers = refl; leaves = refl };
  as_numbers = record { answers = refl; leaves = refl };
  the_lowest = record { answers = refl; leaves = refl };
  not_the_source = record { answers = refl; leaves = refl };
  twelve = record { answers = refl; leaves = refl };
  three = record { answers = refl; leaves = refl };
  empty = record { answers = refl; leaves = refl };
}
