-- How answers become numbers for C, a row for each: from the bytes of a record, or the bits of a drawn run, to the
-- number that is answered and the numbers that are put into a lent list. Net A's record is reading's `bytes_a`, and in
-- the second form the posts' own ratios stand before its segments, `bytes_s`. Definitions only. proofs/Worked computes
-- all rows as one theorem, and the crate `promises` joins them to the one table.
use Rattle.std.specs.Prelude.{◌≡◌, List, [], ◌∷◌, ℕ, pos, negsuc}
use Rattle.net.specs.Refusals.{Lent}
use Rattle.net.specs.declared.Form.TheVariants.{First, Second}
use Rattle.reading.specs.Worked.{bytes_s, bytes_a}
use Rattle.reading.specs.Answers.{check_read}
use Rattle.on_records.specs.Asked.{record_read, plan_of, rewrite_of, margin_read}
use Rattle.moves.specs.Moves.{move_of}
use Rattle.moves.specs.Worked.{house_a}
use Rattle.c_numbers.specs.Named.{the_tree_named, the_run_named}
use Rattle.drawn.specs.Drawn.{drawn_of}
use Rattle.c_calls.specs.Numbers.{check_number, plan_number, the_write_number, margin_number, drawn_number}
use Rattle.c_calls.specs.Left.{summary_after, margins_of}

-- three lists of four entries
abbrev four : Lent
four = record { lightest = 4; shortest = 4; between = 4 }

-- two posts and no segment
abbrev apart : List ℕ
apart = 2 ∷ 0 ∷ 1 ∷ 2 ∷ 0 ∷ []

-- net A in the second form: house ratio 1/1, and 7/5, 1/1 and 0/1 for posts 1, 2 and 3
abbrev mixed : List ℕ
mixed = 0 ∷ 4 ∷ 0 ∷ 1 ∷ 1 ∷ 5 ∷ 7 ∷ 5 ∷ 1 ∷ 1 ∷ 0 ∷ 1 ∷ bytes_s

-- house ratio 0/1, and 7/5 for every post
abbrev loose : List ℕ
loose = 0 ∷ 4 ∷ 0 ∷ 0 ∷ 1 ∷ 5 ∷ 7 ∷ 5 ∷ 7 ∷ 5 ∷ 7 ∷ 5 ∷ bytes_s

pub record NumbersWorked : Type 0 where
  -- CHECK: 0; empty input is refused with 10 at place 0, 10 × 2^32; a record that ends after its first number with 10
  -- at place 1; a record of the second form with 3 at place 1, where the own ratio of post 1 is 1/0, 3 × 2^32 + 1
  pub check_good : check_number (check_read (record_read bytes_a)) ≡ 0
  pub check_empty : check_number (check_read (record_read [])) ≡ 42949672960
  pub check_cut_off : check_number (check_read (record_read (0 ∷ []))) ≡ 42949672961
  pub check_own : check_number (check_read (record_read mixed)) ≡ 0
  pub check_post : check_number (check_read (record_read (0 ∷ 3 ∷ 0 ∷ 1 ∷ 1 ∷ 0 ∷ 1 ∷ 0 ∷ []))) ≡ 12884901889
  -- PLAN: 0, and the twelve numbers: 4 posts, 5 segments, source 0, ratio 1/1, lengths and radii 12 12, 15 6, 13 8, and
  -- 1 laid path; of a shorter summary as many as it has entries. "Two posts, no segment: refused with 9, place 1."
  pub plan_good : plan_number (plan_of (record_read bytes_a) four) ≡ 0
  pub plan_summary : summary_after (plan_of (record_read bytes_a) four)
      (0 ∷ 0 ∷ 0 ∷ 0 ∷ 0 ∷ 0 ∷ 0 ∷ 0 ∷ 0 ∷ 0 ∷ 0 ∷ 0 ∷ 7 ∷ [])
      ≡ 4 ∷ 5 ∷ 0 ∷ 1 ∷ 1 ∷ 12 ∷ 12 ∷ 15 ∷ 6 ∷ 13 ∷ 8 ∷ 1 ∷ 7 ∷ []
  pub plan_short : summary_after (plan_of (record_read bytes_a) four) (7 ∷ 7 ∷ []) ≡ 4 ∷ 5 ∷ []
  pub plan_apart : plan_number (plan_of (record_read apart) four) ≡ 38654705665
  pub plan_kept : summary_after (plan_of (record_read apart) four) (7 ∷ 7 ∷ []) ≡ 7 ∷ 7 ∷ []
  -- in the second form the house ratio is among the twelve numbers, 0/1, and rules nothing: no path is laid
  pub plan_own : summary_after (plan_of (record_read loose) four) (7 ∷ 7 ∷ 7 ∷ 7 ∷ 7 ∷ 7 ∷ 7 ∷ 7 ∷ 7 ∷ 7 ∷ 7 ∷ 7 ∷ [])
      ≡ 4 ∷ 5 ∷ 0 ∷ 0 ∷ 1 ∷ 12 ∷ 12 ∷ 15 ∷ 6 ∷ 12 ∷ 12 ∷ 0 ∷ []
  -- REWRITE: the 20 bytes of net A's record, 27 in the second form; 18 at place 0 where there is room for one less,
  -- 2^63 + 18 × 2^32
  pub rewrite_good : the_write_number (rewrite_of (record_read bytes_a) 20) ≡ 20
  pub rewrite_short : the_write_number (rewrite_of (record_read bytes_a) 19) ≡ 9223372114164187136
  pub rewrite_own : the_write_number (rewrite_of (record_read mixed) 27) ≡ 27
  pub rewrite_own_short : the_write_number (rewrite_of (record_read mixed) 26) ≡ 9223372114164187136
  -- MOVES: net A to the second form takes 27 bytes, and 18 where there is room for one less; back it takes 20; a record
  -- of the form that is wanted is refused with 30, 2^63 + 30 × 2^32, and one in which post 1 has another ratio with 20
  -- at place 1, 2^63 + 20 × 2^32 + 1
  pub second_good : the_write_number (move_of Second (record_read bytes_a) 27) ≡ 27
  pub second_short : the_write_number (move_of Second (record_read bytes_a) 26) ≡ 9223372114164187136
  pub second_already : the_write_number (move_of Second (record_read mixed) 27) ≡ 9223372165703794688
  pub first_good : the_write_number (move_of First (record_read house_a) 20) ≡ 20
  pub first_already : the_write_number (move_of First (record_read bytes_a) 20) ≡ 9223372165703794688
  pub first_other : the_write_number (move_of First (record_read mixed) 20) ≡ 9223372122754121729
  -- MARGIN of post 3: 2 × 5 − 12 in the lightest tree, which 0 names, and 2 × 5 − 5 in the shortest, which 1 names;
  -- post 4 is refused with 19 at place 0. By its own ratio 0/1 it is 5 − 12 in the lightest tree and 0 in the tree
  -- between, which 2 names, and that of post 1, by 7/5, is 12 × 4 − 5 × 4
  pub margin_good : margin_number (margin_read bytes_a (the_tree_named 0) 3) ≡ 0
  pub margin_below : margins_of (margin_read bytes_a (the_tree_named 0) 3) ≡ negsuc 1 ∷ []
  pub margin_above : margins_of (margin_read bytes_a (the_tree_named 1) 3) ≡ pos 5 ∷ []
  pub margin_no_post : margin_number (margin_read bytes_a (the_tree_named 0) 4) ≡ 81604378624
  pub margin_own_below : margins_of (margin_read mixed (the_tree_named 0) 3) ≡ negsuc 6 ∷ []
  pub margin_own_between : margins_of (margin_read mixed (the_tree_named 2) 3) ≡ pos 0 ∷ []
  pub margin_own_above : margins_of (margin_read mixed (the_tree_named 0) 1) ≡ pos 28 ∷ []
  -- DRAWN: 12.5 gives 200; 0.1 is rounded up to 2, and a corner of two such to 4; the second leg of a corner, 65,536,
  -- is refused with 17 at place 1, 2^63 + 17 × 2^32 + 1
  pub drawn_good : drawn_number (drawn_of (the_run_named 0 4623226492472524800 0)) ≡ 200
  pub drawn_rounded : drawn_number (drawn_of (the_run_named 0 4591870180066957722 0)) ≡ 2
  pub drawn_legs_rounded : drawn_number (drawn_of (the_run_named 1 4591870180066957722 4591870180066957722)) ≡ 4
  pub drawn_long : drawn_number (drawn_of (the_run_named 1 4623226492472524800 4679240012837945344))
      ≡ 9223372109869219841
