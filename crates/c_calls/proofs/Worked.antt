-- How answers become numbers for C: every row is computed from the definitions.
use mathlib.Core.Path.{refl}
use lib.Ieee.{of_bits}
use Rattle.net.specs.Refusals.{first, head_lines, ratio_lines, own_lines, segment_lines, present_lines, all_segment_lines, net_lines, lent_lines, room_of_ratios, joined_lines, post_lines}
use Rattle.net.specs.Net.{before, own_of}
use Rattle.net.specs.Trees.{better, round, least, hung, fewest, joined, hung_from, belongs, belonging, lightest, the_least_lengths, hanging_weight, shortest, path_up, the_path_in, radius, whole, the_margin_by}
use Rattle.net.specs.Walk.{at_start, hang_by, try, lay, count, enter, walk}
use Rattle.net.specs.Building.{ratio_of, lightest_of, least_lengths_of, shortest_of, given_with, walk_with, walk_of, between_of, laid_of, tree_of, joined_to_source, build_refusal, margin_refusal, measured, build_answer, build_of, the_margin_in, margin_answer, margin_of}
use Rattle.numbers.specs.Numbers.{groups, written, groups_at, number}
use Rattle.reading.specs.Reading.{hold, room_lines, formed, headed, heading, ratio, post, posts, the_own_read, segment, segments, ended, last_read, rest_read, net_read}
use Rattle.on_records.specs.Asked.{record_read}
use Rattle.writing.specs.Writing.{form_written, numbers_written, head_written, ratio_written, post_written, posts_written, own_written, segment_written, segments_written, net_written, short_lines, write_refusal}
use Rattle.writing.specs.Answers.{write_answer_of}
use Rattle.moves.specs.Moves.{in_form, form_lines, other_lines, move_refusal}
use Rattle.drawn.specs.Drawn.{drawn_of}
use Rattle.c_numbers.specs.Lists.{front}
use Rattle.c_calls.specs.Worked.{NumbersWorked}

pub numbers_worked : NumbersWorked
unfolding first head_lines ratio_lines own_lines segment_lines present_lines all_segment_lines net_lines lent_lines room_of_ratios
    joined_lines post_lines before better round least hung fewest joined hung_from belongs belonging lightest the_least_lengths
    hanging_weight shortest path_up the_path_in radius whole the_margin_by at_start hang_by try lay count enter walk ratio_of lightest_of
    least_lengths_of shortest_of given_with walk_with walk_of between_of laid_of tree_of joined_to_source build_refusal measured
    build_answer build_of margin_refusal the_margin_in margin_answer margin_of groups written groups_at number hold room_lines formed
    headed heading ratio post posts the_own_read segment segments ended last_read rest_read net_read record_read form_written
    numbers_written head_written ratio_written post_written posts_written own_written segment_written segments_written net_written
    short_lines write_refusal write_answer_of own_of in_form form_lines other_lines move_refusal of_bits drawn_of front
numbers_worked =
    record {
      check_good = refl;
      check_empty = refl;
      check_cut_off = refl;
      check_own = refl;
      check_post = refl;
      plan_good = refl;
      plan_summary = refl;
      plan_short = refl;
      plan_apart = refl;
      plan_kept = refl;
      plan_own = refl;
      rewrite_good = refl;
      rewrite_short = refl;
      rewrite_own = refl;
      rewrite_own_short = refl;
      second_good = refl;
      second_short = refl;
      second_already = refl;
      first_good = refl;
      first_already = refl;
      first_other = refl;
      margin_good = refl;
      margin_below = refl;
      margin_above = refl;
      margin_no_post = refl;
      margin_own_below = refl;
      margin_own_between = refl;
      margin_own_above = refl;
      drawn_good = refl;
      drawn_rounded = refl;
      drawn_legs_rounded = refl;
      drawn_long = refl;
    }
