-- Document 01's nets worked by hand, and nets that tell its slips apart, as one table, a row for each statement.
-- proofs/Worked computes all rows as one theorem, and the crate `promises` joins them to the one table of all
-- statements marked (P).
use Rattle.std.specs.Prelude.{◌≡◌, List, [], ◌∷◌, ℕ, pos, negsuc}
use Rattle.std.proofs.Math.Option.{none}
use Rattle.net.specs.Net.{Ratio, Net, no_ratio, net_with, every}
use Rattle.net.specs.Refusals.{Lent, refusal, first, head_lines}
use Rattle.net.specs.Trees.{the_path_in}
use Rattle.net.specs.Building.{BuildAnswer, built, refused, MarginAnswer, margin, build_of, after_build, margin_of}
use Rattle.net.specs.Building.{SmallestOf, tree_of, walk_of}
use Rattle.net.specs.Building as B
use Rattle.net.specs.declared.Form.{Form}
use Rattle.net.specs.declared.Form.TheVariants.{First, Second}
use Rattle.net.specs.declared.Head.{Head}
use Rattle.net.specs.declared.Measured.{Measured}
use Rattle.net.specs.declared.Segment.{Segment}
use Rattle.net.specs.declared.Tree.{Tree}
use Rattle.net.specs.declared.Tree.TheVariants.{Lightest, Shortest, Between}

-- segment a–b of that length
abbrev pub seg : ℕ → ℕ → ℕ → Segment
seg x y l = record { a = x; b = y; length = l }

-- the ratio p/q
abbrev pub ratio : ℕ → ℕ → Ratio
ratio p q = record { p = p; q = q }

abbrev pub heading : Form → ℕ → ℕ → ℕ → ℕ → Head
heading form posts source p q = record { posts = posts; source = source; p = p; q = q; form = form }

-- a net of the first form, and one of the second, to which ratios are lent, one for each post
abbrev pub net : ℕ → ℕ → ℕ → ℕ → List Segment → Net
net posts source p q segs = net_with (heading First posts source p q) [] segs

abbrev pub net₂ : ℕ → ℕ → ℕ → ℕ → List Ratio → List Segment → Net
net₂ posts source p q ratios segs = net_with (heading Second posts source p q) ratios segs

abbrev pub segments_a : List Segment
segments_a = seg 0 1 4 ∷ seg 1 2 4 ∷ seg 2 3 4 ∷ seg 0 3 5 ∷ seg 0 2 6 ∷ []

abbrev pub net_a : ℕ → ℕ → Net
net_a p q = net 4 0 p q segments_a

-- net A in the second form: its source, its house ratio, and the ratios that are lent
abbrev pub net_a₂ : ℕ → ℕ → ℕ → List Ratio → Net
net_a₂ source p q ratios = net₂ 4 source p q ratios segments_a

-- own ratios that differ; the source's place says 9/9, which nothing reads
abbrev pub net_own : Net
net_own = net_a₂ 0 1 1 (ratio 9 9 ∷ ratio 7 5 ∷ ratio 1 1 ∷ ratio 0 1 ∷ [])

abbrev pub net_b : Net
net_b = net 5 0 1 2 (seg 0 1 6 ∷ seg 1 2 6 ∷ seg 2 3 1 ∷ seg 2 4 2 ∷ seg 0 4 7 ∷ [])

abbrev pub net_c : Net
net_c = net 5 0 1 2 (seg 0 1 4 ∷ seg 1 2 4 ∷ seg 0 2 6 ∷ seg 2 4 5 ∷ seg 4 3 5 ∷ seg 2 3 5 ∷ [])

-- a direct path of two segments: laying it counts one
abbrev pub net_two : Net
net_two = net 5 0 0 1 (seg 0 3 4 ∷ seg 3 4 4 ∷ seg 4 2 4 ∷ seg 0 1 5 ∷ seg 1 2 5 ∷ [])

-- a line of posts from post 5, with a path of five segments
abbrev pub net_line : Net
net_line = net 6 5 1 3 (seg 0 1 1 ∷ seg 2 1 2 ∷ seg 2 3 3 ∷ seg 4 3 4 ∷ seg 4 5 5 ∷ [])

-- six nets, each of which tells one wrong walk apart: here a post entered after its children
abbrev pub net_leaving : Net
net_leaving = net 4 0 1 3 (seg 2 1 2 ∷ seg 0 3 3 ∷ seg 3 1 2 ∷ seg 2 0 2 ∷ seg 1 0 2 ∷ [])

-- a try that passes at equality
abbrev pub net_tie : Net
net_tie = net 4 0 1 3 (seg 2 3 2 ∷ seg 0 1 3 ∷ seg 0 2 4 ∷ seg 1 3 3 ∷ [])

-- children in rising post number
abbrev pub net_order : Net
net_order = net 6 0 1 2 (seg 5 0 6 ∷ seg 2 1 5 ∷ seg 5 3 2 ∷ seg 3 4 2 ∷ seg 0 2 3 ∷ seg 1 3 4 ∷ seg 3 5 5 ∷ seg 5 4 3 ∷
    [])

-- children by length, then number
abbrev pub net_length : Net
net_length = net 5 0 1 5 (seg 4 0 4 ∷ seg 2 3 4 ∷ seg 2 4 3 ∷ seg 0 2 3 ∷ seg 1 3 3 ∷ seg 1 4 4 ∷ [])

-- the outer test by the path
abbrev pub net_note : Net
net_note = net 6 0 1 2 (seg 0 1 4 ∷ seg 1 2 4 ∷ seg 0 2 6 ∷ seg 2 4 5 ∷ seg 4 3 5 ∷ seg 2 3 5 ∷ seg 4 5 5 ∷ seg 0 5 11 ∷
    [])

-- no inner test, so that every path is laid from the source
abbrev pub net_stop : Net
net_stop = net 8 0 1 2 (seg 0 1 5 ∷ seg 1 2 4 ∷ seg 0 2 6 ∷ seg 2 4 8 ∷ seg 0 3 7 ∷ seg 3 4 7 ∷ seg 4 5 8 ∷ seg 5 6 8 ∷
    seg 6 7 8 ∷ seg 4 7 9 ∷ [])

-- posts and no segment
abbrev pub bare : ℕ → Net
bare posts = net posts 0 1 2 []

abbrev pub lists : ℕ → Lent
lists k = record { lightest = k; shortest = k; between = k }

abbrev pub measures : ℕ → ℕ → Measured
measures long wide = record { length = long; radius = wide }

-- what building answers for a net of m segments with three lists of k entries and k ratios, and what a list that held l
-- holds afterwards
abbrev pub answer : Net → ℕ → ℕ → BuildAnswer
answer n m k = build_of every n m k (lists k)

abbrev pub after : Net → ℕ → ℕ → Tree → List ℕ → List ℕ
after n m k t l = after_build every n m k (lists k) t l

abbrev pub refused_with : ℕ → ℕ → BuildAnswer
refused_with number place = refused (refusal number place)

abbrev pub margin_refused : ℕ → ℕ → MarginAnswer
margin_refused number place = B.MarginAnswer.refused (refusal number place)

pub record NetsWorked : Type 0 where
  -- NET A. "Lightest 0 1 2, length 12, radius 12. Shortest 0 4 3, length 15, radius 6."
  pub a_lightest : after (net_a 1 1) 5 4 Lightest (7 ∷ 7 ∷ 7 ∷ 7 ∷ 7 ∷ []) ≡ 65535 ∷ 0 ∷ 1 ∷ 2 ∷ 7 ∷ []
  pub a_shortest : after (net_a 1 1) 5 4 Shortest (7 ∷ 7 ∷ 7 ∷ 7 ∷ 7 ∷ []) ≡ 65535 ∷ 0 ∷ 4 ∷ 3 ∷ 7 ∷ []
  -- (P) "Ratio 1/1: between 0 1 3, length 13, radius 8, one laid. Margin of post 3 in the lightest tree: 10 − 12 = −2."
  pub a_1/1 : after (net_a 1 1) 5 4 Between (7 ∷ 7 ∷ 7 ∷ 7 ∷ 7 ∷ []) ≡ 65535 ∷ 0 ∷ 1 ∷ 3 ∷ 7 ∷ []
  pub a_1/1_answer : answer (net_a 1 1) 5 4 ≡ built (measures 12 12) (measures 15 6) (measures 13 8) 1
  pub a_1/1_margin : margin_of every (net_a 1 1) 5 4 Lightest 3 ≡ margin (negsuc 1)
  -- "2/2 and 1/1 build equal trees"
  pub a_2/2 : after (net_a 2 2) 5 4 Between (7 ∷ 7 ∷ 7 ∷ 7 ∷ 7 ∷ []) ≡ 65535 ∷ 0 ∷ 1 ∷ 3 ∷ 7 ∷ []
  pub a_2/2_answer : answer (net_a 2 2) 5 4 ≡ built (measures 12 12) (measures 15 6) (measures 13 8) 1
  -- (P) "0/1: 0 4 3, length 15, two laid."
  pub a_0/1 : after (net_a 0 1) 5 4 Between (7 ∷ 7 ∷ 7 ∷ 7 ∷ []) ≡ 65535 ∷ 0 ∷ 4 ∷ 3 ∷ []
  pub a_0/1_answer : answer (net_a 0 1) 5 4 ≡ built (measures 12 12) (measures 15 6) (measures 15 6) 2
  -- (P) "7/5: 60 isn't above 60, so 0 1 2, none laid."
  pub a_7/5 : after (net_a 7 5) 5 4 Between (7 ∷ 7 ∷ 7 ∷ 7 ∷ []) ≡ 65535 ∷ 0 ∷ 1 ∷ 2 ∷ []
  pub a_7/5_answer : answer (net_a 7 5) 5 4 ≡ built (measures 12 12) (measures 15 6) (measures 12 12) 0
  pub a_7/5_margin : margin_of every (net_a 7 5) 5 4 Lightest 3 ≡ margin (pos 0)
  -- "6/5: 0 1 3."
  pub a_6/5 : after (net_a 6 5) 5 4 Between (7 ∷ 7 ∷ 7 ∷ 7 ∷ []) ≡ 65535 ∷ 0 ∷ 1 ∷ 3 ∷ []
  -- NET B. (P) "Between 0 3 2 4, length 16, one laid. The note of post 3 stays 13, but its path is 10, and the radius
  -- is 10."
  pub b_between : after net_b 5 5 Between (7 ∷ 7 ∷ 7 ∷ 7 ∷ 7 ∷ []) ≡ 65535 ∷ 0 ∷ 3 ∷ 2 ∷ 4 ∷ []
  pub b_answer : answer net_b 5 5 ≡ built (measures 15 14) (measures 16 10) (measures 16 10) 1
  pub b_notes : (walk_of every net_b).d ≡ 0 ∷ 6 ∷ 9 ∷ 13 ∷ 7 ∷ []
  pub b_path : the_path_in net_b.segments 5 (tree_of every net_b Between) 3 ≡ 10
  pub b_margin : margin_of every net_b 5 5 Between 3 ≡ margin (pos 10)
  -- NET C. (P) "Lightest length 18; between 0 2 5 3, length 20, radius 11, one laid."
  pub c_between : after net_c 6 5 Between (7 ∷ 7 ∷ 7 ∷ 7 ∷ 7 ∷ []) ≡ 65535 ∷ 0 ∷ 2 ∷ 5 ∷ 3 ∷ []
  pub c_answer : answer net_c 6 5 ≡ built (measures 18 18) (measures 20 11) (measures 20 11) 1
  -- "One post and no segment: all lengths and radii 0. Two posts, no segment: refused with 9, place 1."
  pub one_post : answer (bare 1) 0 1 ≡ built (measures 0 0) (measures 0 0) (measures 0 0) 0
  pub two_posts : answer (bare 2) 0 2 ≡ refused_with 9 1
  -- a direct path of two segments counts as one laid
  pub two_up : answer net_two 5 5 ≡ built (measures 17 12) (measures 18 10) (measures 18 10) 1
  -- a path is followed to its end
  pub far_up : answer net_line 5 6 ≡ built (measures 15 15) (measures 15 15) (measures 15 15) 0
  pub far_margin : margin_of every net_line 5 6 Lightest 0 ≡ margin (pos 15)
  -- THE WALK. Each post is entered before its children
  pub leaving_answer : answer net_leaving 5 4 ≡ built (measures 6 6) (measures 7 3) (measures 6 4) 1
  pub leaving_between : after net_leaving 5 4 Between (7 ∷ 7 ∷ 7 ∷ 7 ∷ []) ≡ 65535 ∷ 4 ∷ 3 ∷ 2 ∷ []
  -- a try changes nothing at equality
  pub tie_answer : answer net_tie 4 4 ≡ built (measures 8 8) (measures 9 6) (measures 10 6) 1
  pub tie_between : after net_tie 4 4 Between (7 ∷ 7 ∷ 7 ∷ 7 ∷ []) ≡ 65535 ∷ 1 ∷ 2 ∷ 3 ∷ []
  -- the children go in rising number of their segments, not of posts
  pub order_answer : answer net_order 8 6 ≡ built (measures 16 14) (measures 19 9) (measures 18 10) 1
  pub order_between : after net_order 8 6 Between (7 ∷ 7 ∷ 7 ∷ 7 ∷ 7 ∷ 7 ∷ []) ≡ 65535 ∷ 1 ∷ 4 ∷ 2 ∷ 3 ∷ 0 ∷ []
  -- the children go in rising number of their segments, not by length
  pub length_answer : answer net_length 6 5 ≡ built (measures 13 10) (measures 15 8) (measures 15 8) 1
  pub length_between : after net_length 6 5 Between (7 ∷ 7 ∷ 7 ∷ 7 ∷ 7 ∷ []) ≡ 65535 ∷ 5 ∷ 3 ∷ 1 ∷ 0 ∷ []
  -- the outer test is by the note, not by the path
  pub note_answer : answer net_note 8 6 ≡ built (measures 23 18) (measures 31 11) (measures 31 11) 2
  pub note_between : after net_note 8 6 Between (7 ∷ 7 ∷ 7 ∷ 7 ∷ 7 ∷ 7 ∷ []) ≡ 65535 ∷ 0 ∷ 2 ∷ 5 ∷ 3 ∷ 7 ∷ []
  -- the inner test ends a laid path at the first post that is within D
  pub stop_answer : answer net_stop 10 8 ≡ built (measures 47 38) (measures 51 30) (measures 48 30) 1
  pub stop_between : after net_stop 10 8 Between (7 ∷ 7 ∷ 7 ∷ 7 ∷ 7 ∷ 7 ∷ 7 ∷ 7 ∷ [])
      ≡ 65535 ∷ 0 ∷ 1 ∷ 4 ∷ 5 ∷ 6 ∷ 7 ∷ 9 ∷ []
  -- REFUSALS, each with its place, a later fault beside it
  pub refuses_1 : answer (net 0 0 1 0 []) 0 0 ≡ refused_with 1 0
  pub refuses_257 : answer (bare 257) 0 257 ≡ refused_with 1 0
  pub refuses_2 : answer (net 2 2 1 0 []) 0 2 ≡ refused_with 2 0
  pub refuses_3_q : answer (net 2 0 1 0 []) 2049 2 ≡ refused_with 3 0
  pub refuses_3_p : answer (net 2 0 10001 1 []) 0 2 ≡ refused_with 3 0
  pub refuses_3_large_q : answer (net 2 0 1 10001 []) 0 2 ≡ refused_with 3 0
  pub refuses_4 : answer (net 2 0 1 1 (seg 0 0 1 ∷ [])) 2049 2 ≡ refused_with 4 0
  pub refuses_5 : answer (net 2 0 1 1 (seg 0 1 1 ∷ seg 0 2 0 ∷ seg 1 1 1 ∷ [])) 3 2 ≡ refused_with 5 1
  pub refuses_5_first : answer (net 2 0 1 1 (seg 0 1 1 ∷ seg 2 2 0 ∷ [])) 2 2 ≡ refused_with 5 1
  pub refuses_6 : answer (net 2 0 1 1 (seg 0 1 1 ∷ seg 1 1 0 ∷ seg 0 2 1 ∷ [])) 3 2 ≡ refused_with 6 1
  pub refuses_7_zero : answer (net 2 0 1 1 (seg 0 1 1 ∷ seg 0 1 0 ∷ [])) 2 1 ≡ refused_with 7 1
  pub refuses_7_long : answer (net 2 0 1 1 (seg 0 1 1 ∷ seg 0 1 1048576 ∷ [])) 2 2 ≡ refused_with 7 1
  pub takes_longest : answer (net 2 0 1 1 (seg 0 1 1048575 ∷ [])) 1 2 ≡ built (measures 1048575 1048575)
      (measures 1048575 1048575) (measures 1048575 1048575) 0
  pub refuses_8 : build_of every (bare 2) 0 2 (record { lightest = 2; shortest = 2; between = 1 }) ≡ refused_with 8 0
  pub refuses_9 : answer (net 4 0 1 1 (seg 0 2 1 ∷ [])) 1 4 ≡ refused_with 9 1
  pub untouched : after (net 4 0 1 1 (seg 0 2 1 ∷ [])) 1 4 Shortest (7 ∷ 8 ∷ 9 ∷ 7 ∷ []) ≡ 7 ∷ 8 ∷ 9 ∷ 7 ∷ []
  pub margin_refuses_9 : margin_of every (bare 2) 0 2 Lightest 2 ≡ margin_refused 9 1
  pub margin_refuses_19 : margin_of every (bare 1) 0 1 Lightest 1 ≡ margin_refused 19 0
  pub margin_of_source : margin_of every (net_a 1 1) 5 4 Between 0 ≡ margin (pos 0)
  -- the largest head that 1 to 4 take
  pub takes_most : first (head_lines (heading First 256 255 10000 10000) 2048) ≡ none
  -- OWN RATIOS. All 1/1: as in the first form
  pub own_1/1 : answer (net_a₂ 0 1 1 (no_ratio ∷ ratio 1 1 ∷ ratio 1 1 ∷ ratio 1 1 ∷ [])) 5 4
      ≡ built (measures 12 12) (measures 15 6) (measures 13 8) 1
  pub own_1/1_between : after (net_a₂ 0 1 1 (no_ratio ∷ ratio 1 1 ∷ ratio 1 1 ∷ ratio 1 1 ∷ [])) 5 4 Between
      (7 ∷ 7 ∷ 7 ∷ 7 ∷ 7 ∷ []) ≡ 65535 ∷ 0 ∷ 1 ∷ 3 ∷ 7 ∷ []
  -- only post 2 is laid
  pub own_2_laid : answer (net_a₂ 0 1 1 (no_ratio ∷ ratio 1 1 ∷ ratio 0 1 ∷ ratio 9 1 ∷ [])) 5 4
      ≡ built (measures 12 12) (measures 15 6) (measures 14 10) 1
  pub own_2_between : after (net_a₂ 0 1 1 (no_ratio ∷ ratio 1 1 ∷ ratio 0 1 ∷ ratio 9 1 ∷ [])) 5 4 Between
      (7 ∷ 7 ∷ 7 ∷ 7 ∷ 7 ∷ []) ≡ 65535 ∷ 0 ∷ 4 ∷ 2 ∷ 7 ∷ []
  -- the house ratio 0/1 rules nothing
  pub own_7/5 : answer (net_a₂ 0 0 1 (no_ratio ∷ ratio 7 5 ∷ ratio 7 5 ∷ ratio 7 5 ∷ [])) 5 4
      ≡ built (measures 12 12) (measures 15 6) (measures 12 12) 0
  pub own_7/5_between : after (net_a₂ 0 0 1 (no_ratio ∷ ratio 7 5 ∷ ratio 7 5 ∷ ratio 7 5 ∷ [])) 5 4 Between
      (7 ∷ 7 ∷ 7 ∷ 7 ∷ []) ≡ 65535 ∷ 0 ∷ 1 ∷ 2 ∷ []
  pub own_6/5 : answer (net_a₂ 0 0 1 (no_ratio ∷ ratio 7 5 ∷ ratio 7 5 ∷ ratio 6 5 ∷ [])) 5 4
      ≡ built (measures 12 12) (measures 15 6) (measures 13 8) 1
  pub own_6/5_between : after (net_a₂ 0 0 1 (no_ratio ∷ ratio 7 5 ∷ ratio 7 5 ∷ ratio 6 5 ∷ [])) 5 4 Between
      (7 ∷ 7 ∷ 7 ∷ 7 ∷ []) ≡ 65535 ∷ 0 ∷ 1 ∷ 3 ∷ []
  -- another source
  pub own_source_2 : answer (net_a₂ 2 1 1 (ratio 0 1 ∷ ratio 1 1 ∷ no_ratio ∷ ratio 2 1 ∷ [])) 5 4
      ≡ built (measures 12 8) (measures 14 6) (measures 14 6) 1
  pub own_source_2_between : after (net_a₂ 2 1 1 (ratio 0 1 ∷ ratio 1 1 ∷ no_ratio ∷ ratio 2 1 ∷ [])) 5 4 Between
      (7 ∷ 7 ∷ 7 ∷ 7 ∷ []) ≡ 4 ∷ 1 ∷ 65535 ∷ 2 ∷ []
  pub own_one_post : answer (net₂ 1 0 1 2 (no_ratio ∷ []) []) 0 1 ≡ built (measures 0 0) (measures 0 0) (measures 0 0) 0
  pub own_two_posts : answer (net₂ 2 0 1 2 (no_ratio ∷ ratio 1 1 ∷ []) []) 0 2 ≡ refused_with 9 1
  -- the source's place is not read: there 1/0 is no fault
  pub own_source_unread : answer (net_a₂ 0 1 1 (ratio 1 0 ∷ ratio 1 1 ∷ ratio 1 1 ∷ ratio 1 1 ∷ [])) 5 4
      ≡ built (measures 12 12) (measures 15 6) (measures 13 8) 1
  -- margins at the post's own ratio
  pub own_margin_source : margin_of every net_own 5 4 Lightest 0 ≡ margin (pos 0)
  pub own_margin_1 : margin_of every net_own 5 4 Lightest 1 ≡ margin (pos 28)
  pub own_margin_2 : margin_of every net_own 5 4 Lightest 2 ≡ margin (pos 4)
  pub own_margin_3 : margin_of every net_own 5 4 Lightest 3 ≡ margin (negsuc 6)
  pub own_shortest_source : margin_of every net_own 5 4 Shortest 0 ≡ margin (pos 0)
  pub own_shortest_1 : margin_of every net_own 5 4 Shortest 1 ≡ margin (pos 28)
  pub own_shortest_2 : margin_of every net_own 5 4 Shortest 2 ≡ margin (pos 6)
  pub own_shortest_3 : margin_of every net_own 5 4 Shortest 3 ≡ margin (pos 0)
  pub own_between : after net_own 5 4 Between (7 ∷ 7 ∷ 7 ∷ 7 ∷ []) ≡ 65535 ∷ 0 ∷ 1 ∷ 3 ∷ []
  pub own_between_source : margin_of every net_own 5 4 Between 0 ≡ margin (pos 0)
  pub own_between_1 : margin_of every net_own 5 4 Between 1 ≡ margin (pos 28)
  pub own_between_2 : margin_of every net_own 5 4 Between 2 ≡ margin (pos 4)
  pub own_between_3 : margin_of every net_own 5 4 Between 3 ≡ margin (pos 0)
  -- its smallest ratio is 0/1
  pub own_smallest : SmallestOf net_own 3
  -- the house ratio is checked
  pub own_refuses_house : answer (net₂ 2 0 1 0 (no_ratio ∷ ratio 1 0 ∷ []) []) 0 2 ≡ refused_with 3 0
  -- "3 also covers a post's ratio, place the post, after the head's 4": the lowest such post, before any segment
  pub own_refuses_3 : answer (net₂ 3 0 1 1 (no_ratio ∷ ratio 1 1 ∷ ratio 1 0 ∷ []) (seg 0 3 4 ∷ [])) 1 3
      ≡ refused_with 3 2
  pub own_refuses_3_first : answer (net₂ 3 0 1 1 (no_ratio ∷ ratio 10001 1 ∷ ratio 1 0 ∷ []) []) 0 3 ≡ refused_with 3 1
  pub own_refuses_3_large_q : answer (net₂ 3 0 1 1 (no_ratio ∷ ratio 1 10001 ∷ ratio 1 1 ∷ []) []) 0 3 ≡ refused_with 3 1
  pub own_refuses_3_post_0 : answer (net_a₂ 1 1 1 (ratio 1 0 ∷ no_ratio ∷ ratio 1 1 ∷ ratio 1 1 ∷ [])) 5 4
      ≡ refused_with 3 0
  pub own_refuses_4 : answer (net₂ 2 0 1 1 (no_ratio ∷ ratio 1 0 ∷ []) []) 2049 2 ≡ refused_with 4 0
  pub own_refuses_5 : answer (net₂ 2 0 1 2 (no_ratio ∷ ratio 1 1 ∷ []) (seg 0 2 4 ∷ [])) 1 2 ≡ refused_with 5 0
  -- the ratios are read as far as they go, and held to 8 after 7, in both forms
  pub own_refuses_3_short : build_of every (net_a₂ 0 1 1 (ratio 1 1 ∷ ratio 1 0 ∷ [])) 5 2 (lists 4) ≡ refused_with 3 1
  pub own_refuses_5_short : build_of every
      (net₂ 4 0 1 1 (ratio 1 0 ∷ ratio 1 1 ∷ [])
      (seg 0 1 4 ∷ seg 1 2 4 ∷ seg 2 3 4 ∷ seg 0 3 5 ∷ seg 0 2 6 ∷ seg 0 4 1 ∷ [])) 6 2 (lists 4) ≡ refused_with 5 5
  pub own_refuses_8 : build_of every (net_a₂ 0 1 1 (ratio 1 0 ∷ ratio 1 1 ∷ [])) 5 2 (lists 4) ≡ refused_with 8 0
  pub first_refuses_8 : build_of every (net_a 1 1) 5 3 (lists 4) ≡ refused_with 8 0
  pub own_margin_refuses_8 : margin_of every (net_a₂ 0 1 1 (no_ratio ∷ ratio 1 1 ∷ ratio 1 1 ∷ [])) 5 3 Lightest 9
      ≡ margin_refused 8 0
  pub first_margin_refuses_8 : margin_of every (net_a 1 1) 5 3 Lightest 9 ≡ margin_refused 8 0
  -- what is lent to a net of the first form is not read
  pub first_unread : answer (net_with (heading First 4 0 1 1) (ratio 1 0 ∷ ratio 1 0 ∷ ratio 0 1 ∷ ratio 1 0 ∷ [])
      segments_a) 5 4 ≡ built (measures 12 12) (measures 15 6) (measures 13 8) 1
