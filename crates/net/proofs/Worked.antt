-- The table of nets worked by hand holds: every row is computed from the definitions.
use mathlib.Core.Path.{refl}
use native.Mathlib.Omega.{arith}
use Rattle.net.specs.Refusals.{first, head_lines, ratio_lines, own_lines, segment_lines, present_lines, all_segment_lines, net_lines, lent_lines, room_of_ratios, joined_lines, post_lines}
use Rattle.net.specs.Net.{own_of, before}
use Rattle.net.specs.Trees.{better, round, least, hung, fewest, joined, hung_from, belongs, belonging, lightest, the_least_lengths, hanging_weight, shortest, path_up, the_path_in, radius, whole, the_margin_by}
use Rattle.net.specs.Walk.{at_start, hang_by, try, lay, count, enter, walk}
use Rattle.net.specs.Building.{SmallestOf, ratio_of, lightest_of, least_lengths_of, shortest_of, given_with, walk_with, walk_of, between_of, laid_of, tree_of, joined_to_source, build_refusal, margin_refusal, measured, build_answer, build_of, list_after, after_build, the_margin_in, margin_answer, margin_of}
use Rattle.net.specs.Worked.{net_own, NetsWorked}

-- 0/1 is smaller than any ratio
net_own_smallest : SmallestOf net_own 3
unfolding ratio_of own_of
net_own_smallest = record { is_post = omega arith; not_source = λ e. omega arith; no_smaller = λ u h ne. omega arith }

pub nets_worked : NetsWorked
unfolding first head_lines ratio_lines own_lines segment_lines present_lines all_segment_lines net_lines lent_lines room_of_ratios joined_lines post_lines own_of before
    better round least hung fewest joined hung_from belongs belonging lightest the_least_lengths hanging_weight shortest
    path_up the_path_in radius whole the_margin_by at_start hang_by try lay count enter walk ratio_of lightest_of least_lengths_of
    shortest_of given_with walk_with walk_of between_of laid_of tree_of joined_to_source build_refusal margin_refusal
    measured build_answer build_of list_after after_build the_margin_in margin_answer margin_of
nets_worked =
    record {
      a_lightest = refl;
      a_shortest = refl;
      a_1/1 = refl;
      a_1/1_answer = refl;
      a_1/1_margin = refl;
      a_2/2 = refl;
      a_2/2_answer = refl;
      a_0/1 = refl;
      a_0/1_answer = refl;
      a_7/5 = refl;
      a_7/5_answer = refl;
      a_7/5_margin = refl;
      a_6/5 = refl;
      b_between = refl;
      b_answer = refl;
      b_notes = refl;
      b_path = refl;
      b_margin = refl;
      c_between = refl;
      c_answer = refl;
      one_post = refl;
      two_posts = refl;
      two_up = refl;
      far_up = refl;
      far_margin = refl;
      leaving_answer = refl;
      leaving_between = refl;
      tie_answer = refl;
      tie_between = refl;
      order_answer = refl;
      order_between = refl;
      length_answer = refl;
      length_between = refl;
      note_answer = refl;
      note_between = refl;
      stop_answer = refl;
      stop_between = refl;
      refuses_1 = refl;
      refuses_257 = refl;
      refuses_2 = refl;
      refuses_3_q = refl;
      refuses_3_p = refl;
      refuses_3_large_q = refl;
      refuses_4 = refl;
      refuses_5 = refl;
      refuses_5_first = refl;
      refuses_6 = refl;
      refuses_7_zero = refl;
      refuses_7_long = refl;
      takes_longest = refl;
      refuses_8 = refl;
      refuses_9 = refl;
      untouched = refl;
      margin_refuses_9 = refl;
      margin_refuses_19 = refl;
      margin_of_source = refl;
      takes_most = refl;
      own_1/1 = refl;
      own_1/1_between = refl;
      own_2_laid = refl;
      own_2_between = refl;
      own_7/5 = refl;
      own_7/5_between = refl;
      own_6/5 = refl;
      own_6/5_between = refl;
      own_source_2 = refl;
      own_source_2_between = refl;
      own_one_post = refl;
      own_two_posts = refl;
      own_source_unread = refl;
      own_margin_source = refl;
      own_margin_1 = refl;
      own_margin_2 = refl;
      own_margin_3 = refl;
      own_shortest_source = refl;
      own_shortest_1 = refl;
      own_shortest_2 = refl;
      own_shortest_3 = refl;
      own_between = refl;
      own_between_source = refl;
      own_between_1 = refl;
      own_between_2 = refl;
      own_between_3 = refl;
      own_smallest = net_own_smallest;
      own_refuses_house = refl;
      own_refuses_3 = refl;
      own_refuses_3_first = refl;
      own_refuses_3_large_q = refl;
      own_refuses_3_post_0 = refl;
      own_refuses_5 = refl;
      own_refuses_4 = refl;
      own_refuses_3_short = refl;
      own_refuses_5_short = refl;
      own_refuses_8 = refl;
      first_refuses_8 = refl;
      own_margin_refuses_8 = refl;
      first_margin_refuses_8 = refl;
      first_unread = refl;
    }
