-- The table of worked records holds: every row is computed from the definitions.
use mathlib.Core.Path.{refl}
use Rattle.net.specs.Net.{own_of}
use Rattle.net.specs.Refusals.{first, head_lines, ratio_lines, own_lines, segment_lines, present_lines, all_segment_lines, net_lines, room_of_ratios}
use Rattle.numbers.specs.Numbers.{groups, written, groups_at, number}
use Rattle.reading.specs.Reading.{hold, room_lines, formed, headed, heading, ratio, post, posts, the_own_read, segment, segments, ended, last_read, rest_read, net_read}
use Rattle.writing.specs.Writing.{form_written, numbers_written, head_written, ratio_written, post_written, posts_written, own_written, segment_written, segments_written, net_written, short_lines, write_refusal}
use Rattle.reading.specs.Worked.{RecordsWorked}

pub records_worked : RecordsWorked
unfolding groups written groups_at number first head_lines ratio_lines own_lines segment_lines present_lines all_segment_lines net_lines room_of_ratios
    hold room_lines formed headed heading ratio post posts the_own_read segment segments ended last_read rest_read net_read
    own_of form_written numbers_written head_written ratio_written post_written posts_written own_written segment_written segments_written net_written short_lines write_refusal
records_worked = record {
  p127 = refl;
  p128 = refl;
  p300 = refl;
  p11 = refl;
  p_record = refl;
  p_read = refl;
  writing_18 = refl;
  writing_fits = refl;
  writing_8 = refl;
  four_before_18 = refl;
  largest = refl;
  largest_read = refl;
  fourth_more = refl;
  empty = refl;
  zero_alone = refl;
  a_written = refl;
  a_read = refl;
  a_more = refl;
  a_short = refl;
  a_few = refl;
  own_written_law = refl;
  own_read = refl;
  own_18 = refl;
  own_fits = refl;
  own_8 = refl;
  two_written = refl;
  two_read = refl;
  one_written = refl;
  one_read = refl;
  five_after_zero = refl;
  zero_after_zero = refl;
  first_eleven = refl;
  two_zeros = refl;
  post_3 = refl;
  second_3 = refl;
  large_3 = refl;
  large_10 = refl;
  post_11 = refl;
  post_10 = refl;
  house_3 = refl;
  three_before_5 = refl;
  five_after = refl;
  twelve_after = refl;
}
