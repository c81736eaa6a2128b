-- Runs of the program as one table: bytes that are read, and bytes that are printed; document 01's, and behind them
-- those of records of the second form. proofs/Worked computes all rows as one theorem.
use Rattle.std.specs.Prelude.{◌≡◌, List, [], ◌∷◌, ◌++◌, ℕ}
use Rattle.reading.specs.Worked.{bytes_s, bytes_a}
use Rattle.printing.specs.Printed.{printed}

-- LINES as they are printed, each with its newline: those of net A
-- net 4 5 0 1/1
abbrev net_one : List ℕ
net_one = 110 ∷ 101 ∷ 116 ∷ 32 ∷ 52 ∷ 32 ∷ 53 ∷ 32 ∷ 48 ∷ 32 ∷ 49 ∷ 47 ∷ 49 ∷ 10 ∷ []

-- net 4 5 0 0/1
abbrev net_none : List ℕ
net_none = 110 ∷ 101 ∷ 116 ∷ 32 ∷ 52 ∷ 32 ∷ 53 ∷ 32 ∷ 48 ∷ 32 ∷ 48 ∷ 47 ∷ 49 ∷ 10 ∷ []

-- mst 12 12 0 1 2
abbrev mst_a : List ℕ
mst_a = 109 ∷ 115 ∷ 116 ∷ 32 ∷ 49 ∷ 50 ∷ 32 ∷ 49 ∷ 50 ∷ 32 ∷ 48 ∷ 32 ∷ 49 ∷ 32 ∷ 50 ∷ 10 ∷ []

-- spt 15 6 0 4 3
abbrev spt_a : List ℕ
spt_a = 115 ∷ 112 ∷ 116 ∷ 32 ∷ 49 ∷ 53 ∷ 32 ∷ 54 ∷ 32 ∷ 48 ∷ 32 ∷ 52 ∷ 32 ∷ 51 ∷ 10 ∷ []

-- last 13 8 0 1 3
abbrev last_a : List ℕ
last_a = 108 ∷ 97 ∷ 115 ∷ 116 ∷ 32 ∷ 49 ∷ 51 ∷ 32 ∷ 56 ∷ 32 ∷ 48 ∷ 32 ∷ 49 ∷ 32 ∷ 51 ∷ 10 ∷ []

-- last 12 12 0 1 2
abbrev walked_a : List ℕ
walked_a = 108 ∷ 97 ∷ 115 ∷ 116 ∷ 32 ∷ 49 ∷ 50 ∷ 32 ∷ 49 ∷ 50 ∷ 32 ∷ 48 ∷ 32 ∷ 49 ∷ 32 ∷ 50 ∷ 10 ∷ []

-- laid 0
abbrev laid_none : List ℕ
laid_none = 108 ∷ 97 ∷ 105 ∷ 100 ∷ 32 ∷ 48 ∷ 10 ∷ []

-- laid 1
abbrev laid_one : List ℕ
laid_one = 108 ∷ 97 ∷ 105 ∷ 100 ∷ 32 ∷ 49 ∷ 10 ∷ []

-- those of a net of one post, whose lines have no entry
-- net 1 0 0 1/2, mst 0 0, spt 0 0, last 0 0, laid 0
abbrev the_one_post : List ℕ
the_one_post = (110 ∷ 101 ∷ 116 ∷ 32 ∷ 49 ∷ 32 ∷ 48 ∷ 32 ∷ 48 ∷ 32 ∷ 49 ∷ 47 ∷ 50 ∷ 10 ∷ [])
    ++ (109 ∷ 115 ∷ 116 ∷ 32 ∷ 48 ∷ 32 ∷ 48 ∷ 10 ∷ [])
    ++ (115 ∷ 112 ∷ 116 ∷ 32 ∷ 48 ∷ 32 ∷ 48 ∷ 10 ∷ [])
    ++ (108 ∷ 97 ∷ 115 ∷ 116 ∷ 32 ∷ 48 ∷ 32 ∷ 48 ∷ 10 ∷ [])
    ++ (108 ∷ 97 ∷ 105 ∷ 100 ∷ 32 ∷ 48 ∷ 10 ∷ [])

-- a refusal's line: its word, then its number and place
abbrev refusing : List ℕ → List ℕ
refusing l = 114 ∷ 101 ∷ 102 ∷ 117 ∷ 115 ∷ 101 ∷ 100 ∷ 32 ∷ l

pub record ProgramWorked : Type 0 where
  -- "Input 4 0 1 1 5 0 1 4 1 2 4 2 3 4 0 3 5 0 2 6 (bytes), net A, gives exactly"
  pub net_A : printed bytes_a ≡ net_one ++ mst_a ++ spt_a ++ last_a ++ laid_one
  -- "empty input prints `refused 10 0`"
  pub empty_input : printed [] ≡ refusing (49 ∷ 48 ∷ 32 ∷ 48 ∷ 10 ∷ [])
  -- the first number 0 alone: the next one is cut off
  pub cut_off : printed (0 ∷ []) ≡ refusing (49 ∷ 48 ∷ 32 ∷ 49 ∷ 10 ∷ [])
  -- "Two posts, no segment: refused with 9, place 1."
  pub two_posts : printed (2 ∷ 0 ∷ 1 ∷ 2 ∷ 0 ∷ []) ≡ refusing (57 ∷ 32 ∷ 49 ∷ 10 ∷ [])
  -- "One post and no segment: all lengths and radii 0."
  pub one_post : printed (1 ∷ 0 ∷ 1 ∷ 2 ∷ 0 ∷ []) ≡ the_one_post
  -- THE SECOND FORM: net A with 1/1 for every post
  pub own_A : printed (0 ∷ 4 ∷ 0 ∷ 1 ∷ 1 ∷ 5 ∷ 1 ∷ 1 ∷ 1 ∷ 1 ∷ 1 ∷ 1 ∷ bytes_s)
      ≡ net_one ++ mst_a ++ spt_a ++ last_a ++ laid_one
  -- with 1/1, 0/1 and 9/1: only post 2 is laid
  pub own_three : printed (0 ∷ 4 ∷ 0 ∷ 1 ∷ 1 ∷ 5 ∷ 1 ∷ 1 ∷ 0 ∷ 1 ∷ 9 ∷ 1 ∷ bytes_s)
      ≡ net_one ++ mst_a ++ spt_a
      ++ (108 ∷ 97 ∷ 115 ∷ 116 ∷ 32 ∷ 49 ∷ 52 ∷ 32 ∷ 49 ∷ 48 ∷ 32 ∷ 48 ∷ 32 ∷ 52 ∷ 32 ∷ 50 ∷ 10 ∷ []) ++ laid_one
  -- the house ratio, 0/1, is printed and rules nothing: with 7/5 for every post nothing is laid
  pub own_house : printed (0 ∷ 4 ∷ 0 ∷ 0 ∷ 1 ∷ 5 ∷ 7 ∷ 5 ∷ 7 ∷ 5 ∷ 7 ∷ 5 ∷ bytes_s)
      ≡ net_none ++ mst_a ++ spt_a ++ walked_a ++ laid_none
  -- and with 6/5 for post 3 that post's path is laid
  pub own_last : printed (0 ∷ 4 ∷ 0 ∷ 0 ∷ 1 ∷ 5 ∷ 7 ∷ 5 ∷ 7 ∷ 5 ∷ 6 ∷ 5 ∷ bytes_s)
      ≡ net_none ++ mst_a ++ spt_a ++ last_a ++ laid_one
  -- source 2, and the ratios of posts 0, 1 and 3
  pub own_source_two : printed (0 ∷ 4 ∷ 2 ∷ 1 ∷ 1 ∷ 5 ∷ 0 ∷ 1 ∷ 1 ∷ 1 ∷ 2 ∷ 1 ∷ bytes_s)
      ≡ (110 ∷ 101 ∷ 116 ∷ 32 ∷ 52 ∷ 32 ∷ 53 ∷ 32 ∷ 50 ∷ 32 ∷ 49 ∷ 47 ∷ 49 ∷ 10 ∷ [])
      ++ (109 ∷ 115 ∷ 116 ∷ 32 ∷ 49 ∷ 50 ∷ 32 ∷ 56 ∷ 32 ∷ 48 ∷ 32 ∷ 49 ∷ 32 ∷ 50 ∷ 10 ∷ [])
      ++ (115 ∷ 112 ∷ 116 ∷ 32 ∷ 49 ∷ 52 ∷ 32 ∷ 54 ∷ 32 ∷ 52 ∷ 32 ∷ 49 ∷ 32 ∷ 50 ∷ 10 ∷ [])
      ++ (108 ∷ 97 ∷ 115 ∷ 116 ∷ 32 ∷ 49 ∷ 52 ∷ 32 ∷ 54 ∷ 32 ∷ 52 ∷ 32 ∷ 49 ∷ 32 ∷ 50 ∷ 10 ∷ []) ++ laid_one
  -- one post has no ratio of its own
  pub own_one_post : printed (0 ∷ 1 ∷ 0 ∷ 1 ∷ 2 ∷ 0 ∷ []) ≡ the_one_post
  -- two posts and no segment
  pub own_two_posts : printed (0 ∷ 2 ∷ 0 ∷ 1 ∷ 2 ∷ 0 ∷ 1 ∷ 1 ∷ []) ≡ refusing (57 ∷ 32 ∷ 49 ∷ 10 ∷ [])
  -- "a first number 0 no longer gives 1, though a 0 after it does"
  pub five_after_zero : printed (0 ∷ 0 ∷ 1 ∷ 1 ∷ 5 ∷ []) ≡ refusing (49 ∷ 48 ∷ 32 ∷ 53 ∷ 10 ∷ [])
  pub zero_after_zero : printed (0 ∷ 0 ∷ 0 ∷ 1 ∷ 1 ∷ 0 ∷ []) ≡ refusing (49 ∷ 32 ∷ 48 ∷ 10 ∷ [])
  pub two_zeros : printed (0 ∷ 0 ∷ []) ≡ refusing (49 ∷ 48 ∷ 32 ∷ 50 ∷ 10 ∷ [])
  pub first_eleven : printed (128 ∷ 0 ∷ []) ≡ refusing (49 ∷ 49 ∷ 32 ∷ 48 ∷ 10 ∷ [])
  -- a post's two numbers, then its 3, then the next post's, in rising order
  pub post_three : printed (0 ∷ 3 ∷ 0 ∷ 1 ∷ 1 ∷ 0 ∷ 1 ∷ 0 ∷ []) ≡ refusing (51 ∷ 32 ∷ 49 ∷ 10 ∷ [])
  pub second_three : printed (0 ∷ 3 ∷ 0 ∷ 1 ∷ 1 ∷ 0 ∷ 1 ∷ 1 ∷ 1 ∷ 0 ∷ []) ≡ refusing (51 ∷ 32 ∷ 50 ∷ 10 ∷ [])
  pub large_three : printed (0 ∷ 3 ∷ 0 ∷ 1 ∷ 1 ∷ 0 ∷ 145 ∷ 78 ∷ 1 ∷ []) ≡ refusing (51 ∷ 32 ∷ 49 ∷ 10 ∷ [])
  pub large_ten : printed (0 ∷ 3 ∷ 0 ∷ 1 ∷ 1 ∷ 0 ∷ 145 ∷ 78 ∷ []) ≡ refusing (49 ∷ 48 ∷ 32 ∷ 56 ∷ 10 ∷ [])
  pub post_eleven : printed (0 ∷ 3 ∷ 0 ∷ 1 ∷ 1 ∷ 0 ∷ 1 ∷ 128 ∷ 0 ∷ []) ≡ refusing (49 ∷ 49 ∷ 32 ∷ 55 ∷ 10 ∷ [])
  pub post_ten : printed (0 ∷ 3 ∷ 0 ∷ 1 ∷ 1 ∷ 0 ∷ 1 ∷ 1 ∷ []) ≡ refusing (49 ∷ 48 ∷ 32 ∷ 56 ∷ 10 ∷ [])
  -- the house ratio's 3 before the posts', and a post's before a segment's 5; then 12
  pub house_three : printed (0 ∷ 2 ∷ 0 ∷ 1 ∷ 0 ∷ 0 ∷ 1 ∷ 1 ∷ []) ≡ refusing (51 ∷ 32 ∷ 48 ∷ 10 ∷ [])
  pub three_before_five : printed (0 ∷ 2 ∷ 0 ∷ 1 ∷ 2 ∷ 1 ∷ 1 ∷ 0 ∷ 0 ∷ 2 ∷ 4 ∷ []) ≡ refusing (51 ∷ 32 ∷ 49 ∷ 10 ∷ [])
  pub five_after : printed (0 ∷ 2 ∷ 0 ∷ 1 ∷ 2 ∷ 1 ∷ 1 ∷ 1 ∷ 0 ∷ 2 ∷ 4 ∷ []) ≡ refusing (53 ∷ 32 ∷ 48 ∷ 10 ∷ [])
  pub twelve_after : printed (0 ∷ 2 ∷ 0 ∷ 1 ∷ 2 ∷ 1 ∷ 1 ∷ 1 ∷ 0 ∷ 1 ∷ 4 ∷ 9 ∷ [])
      ≡ refusing (49 ∷ 50 ∷ 32 ∷ 49 ∷ 49 ∷ 10 ∷ [])
