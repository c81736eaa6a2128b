-- Runs of the program: every row is computed from the definitions, from the bytes that are read to the bytes that are printed.
use mathlib.Core.Path.{refl}
use Rattle.net.specs.Refusals.{first, head_lines, ratio_lines, own_lines, segment_lines, present_lines, all_segment_lines, net_lines, lent_lines, room_of_ratios, joined_lines}
use Rattle.net.specs.Net.{before}
use Rattle.net.specs.Trees.{better, round, least, hung, fewest, joined, hung_from, belongs, belonging, lightest, the_least_lengths, hanging_weight, shortest, path_up, the_path_in, radius, whole}
use Rattle.net.specs.Walk.{at_start, hang_by, try, lay, count, enter, walk}
use Rattle.net.specs.Building.{ratio_of, lightest_of, least_lengths_of, shortest_of, given_with, walk_with, walk_of, between_of, laid_of, tree_of, joined_to_source, build_refusal, measured, build_answer, build_of}
use Rattle.numbers.specs.Numbers.{groups_at, number}
use Rattle.reading.specs.Reading.{hold, room_lines, formed, headed, heading, ratio, post, posts, the_own_read, segment, segments, ended, last_read, rest_read, net_read}
use Rattle.on_records.specs.Asked.{record_read}
use Rattle.lines.specs.Text.{spelled, decimal, spaced, ratio_text, net_line, entry_text, entries_text, tree_line, laid_line, refused_line, program_text}
use Rattle.printing.specs.Printed.{printed}
use Rattle.printing.specs.Worked.{ProgramWorked}

pub program_worked : ProgramWorked
unfolding first head_lines ratio_lines own_lines segment_lines present_lines all_segment_lines net_lines lent_lines room_of_ratios
    joined_lines before better round least hung fewest joined hung_from belongs belonging lightest the_least_lengths
    hanging_weight shortest path_up the_path_in radius whole at_start hang_by try lay count enter walk ratio_of lightest_of
    least_lengths_of shortest_of given_with walk_with walk_of between_of laid_of tree_of joined_to_source build_refusal measured
    build_answer build_of groups_at number hold room_lines formed headed heading ratio post posts the_own_read segment segments
    ended last_read rest_read net_read printed record_read spelled decimal spaced ratio_text net_line entry_text entries_text
    tree_line laid_line refused_line program_text
program_worked =
    record {
      net_A = refl;
      empty_input = refl;
      cut_off = refl;
      two_posts = refl;
      one_post = refl;
      own_A = refl;
      own_three = refl;
      own_house = refl;
      own_last = refl;
      own_source_two = refl;
      own_one_post = refl;
      own_two_posts = refl;
      five_after_zero = refl;
      zero_after_zero = refl;
      two_zeros = refl;
      first_eleven = refl;
      post_three = refl;
      second_three = refl;
      large_three = refl;
      large_ten = refl;
      post_eleven = refl;
      post_ten = refl;
      house_three = refl;
      three_before_five = refl;
      five_after = refl;
      twelve_after = refl;
    }
