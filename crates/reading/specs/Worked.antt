-- Document 01's worked examples of the record as one table, a row for each statement: those marked (P), and those
-- that are named beside them. proofs/Worked computes all rows as one theorem, and the crate `promises` joins them to
-- the one table of all statements marked (P).
use Rattle.std.specs.Prelude.{ℕ, ◌≡◌, List, [], ◌∷◌}
use Rattle.std.proofs.Math.Option.{none, some}
use Rattle.net.specs.Net.{Ratio, Net, net_with, ratios_of, no_ratio}
use Rattle.net.specs.Refusals.{refusal}
use Rattle.net.specs.declared.Segment.{Segment}
use Rattle.net.specs.declared.Form.{Form}
use Rattle.net.specs.declared.Form.TheVariants.{First, Second}
use Rattle.net.specs.declared.Head.{Head}
use Rattle.numbers.specs.Numbers.{written, got, refused, number}
use Rattle.reading.specs.Reading.{net_read}
use Rattle.writing.specs.Writing.{net_written, write_refusal}

abbrev pub joined : ℕ → ℕ → ℕ → Segment
joined a b l = record { a = a; b = b; length = l }

abbrev pub head_of : Form → ℕ → ℕ → ℕ → ℕ → Head
head_of form posts source p q = record { posts = posts; source = source; p = p; q = q; form = form }

-- "Two posts, source 0, ratio 1/2 and one segment 0, 1, 300"
abbrev pub two_posts : Net
two_posts = net_with (head_of First 2 0 1 2) [] (joined 0 1 300 ∷ [])

-- net A with ratio 1/1
abbrev pub segments_a : List Segment
segments_a = joined 0 1 4 ∷ joined 1 2 4 ∷ joined 2 3 4 ∷ joined 0 3 5 ∷ joined 0 2 6 ∷ []

abbrev pub net_a : Net
net_a = net_with (head_of First 4 0 1 1) [] segments_a

-- and their bytes
abbrev pub bytes_s : List ℕ
bytes_s = 0 ∷ 1 ∷ 4 ∷ 1 ∷ 2 ∷ 4 ∷ 2 ∷ 3 ∷ 4 ∷ 0 ∷ 3 ∷ 5 ∷ 0 ∷ 2 ∷ 6 ∷ []

abbrev pub bytes_a : List ℕ
bytes_a = 4 ∷ 0 ∷ 1 ∷ 1 ∷ 5 ∷ bytes_s

-- net A in the second form: the source's own place in the lent lists, 9/0, is neither read nor written
abbrev pub own_a : List Ratio
own_a = ratios_of (9 ∷ 1 ∷ 1 ∷ 0 ∷ []) (0 ∷ 1 ∷ 1 ∷ 1 ∷ [])

abbrev pub own_net_a : Net
own_net_a = net_with (head_of Second 4 0 1 1) own_a segments_a

abbrev pub own_bytes_a : List ℕ
own_bytes_a = 0 ∷ 4 ∷ 0 ∷ 1 ∷ 1 ∷ 5 ∷ 1 ∷ 1 ∷ 1 ∷ 1 ∷ 0 ∷ 1 ∷ bytes_s

-- the same with source 2
abbrev pub source_two_a : Net
source_two_a = net_with (head_of Second 4 2 1 1) (ratios_of (0 ∷ 1 ∷ 9 ∷ 2 ∷ []) (1 ∷ 1 ∷ 9 ∷ 1 ∷ [])) segments_a

-- one post has no own ratio
abbrev pub the_one_post : Net
the_one_post = net_with (head_of Second 1 0 1 2) (no_ratio ∷ []) []

pub record RecordsWorked : Type 0 where
  -- (P) "127 is byte 127; 128 is 128, 1; 300 is 172, 2"
  pub p127 : written 127 ≡ 127 ∷ []
  pub p128 : written 128 ≡ 128 ∷ 1 ∷ []
  pub p300 : written 300 ≡ 172 ∷ 2 ∷ []
  -- (P) "128, 0 is refused with 11"
  pub p11 : number (128 ∷ 0 ∷ []) 0 ≡ refused (refusal 11 0)
  -- (P) the record of two posts
  pub p_record : net_written two_posts ≡ 2 ∷ 0 ∷ 1 ∷ 2 ∷ 1 ∷ 0 ∷ 1 ∷ 172 ∷ 2 ∷ []
  pub p_read : net_read (2 ∷ 0 ∷ 1 ∷ 2 ∷ 1 ∷ 0 ∷ 1 ∷ 172 ∷ 2 ∷ []) 1 2 0 ≡ got two_posts 9
  -- its nine bytes into a room of eight: 18; into one of nine, nothing is refused; 1 to 7 and 8 come before 18
  pub writing_18 : write_refusal two_posts 1 2 8 ≡ some (refusal 18 0)
  pub writing_fits : write_refusal two_posts 1 2 9 ≡ none
  pub writing_8 : write_refusal two_posts 1 1 8 ≡ some (refusal 8 0)
  pub four_before_18 : write_refusal two_posts 2049 2 8 ≡ some (refusal 4 0)
  -- "268,435,455 is 255, 255, 255, 127"; a fourth group that says more
  pub largest : written 268435455 ≡ 255 ∷ 255 ∷ 255 ∷ 127 ∷ []
  pub largest_read : number (255 ∷ 255 ∷ 255 ∷ 127 ∷ []) 0 ≡ got 268435455 4
  pub fourth_more : number (255 ∷ 255 ∷ 255 ∷ 255 ∷ 1 ∷ []) 0 ≡ refused (refusal 11 0)
  -- "empty input prints `refused 10 0`"; all head numbers are read before 1 to 4
  pub empty : net_read [] 0 0 0 ≡ refused (refusal 10 0)
  pub zero_alone : net_read (0 ∷ []) 0 0 0 ≡ refused (refusal 10 1)
  -- net A, both ways; with a byte too many; with a lent list too short
  pub a_written : net_written net_a ≡ bytes_a
  pub a_read : net_read bytes_a 5 4 0 ≡ got net_a 20
  pub a_more : net_read (2 ∷ 0 ∷ 1 ∷ 2 ∷ 1 ∷ 0 ∷ 1 ∷ 172 ∷ 2 ∷ 0 ∷ []) 1 2 0 ≡ refused (refusal 12 9)
  pub a_short : net_read bytes_a 4 4 0 ≡ refused (refusal 8 0)
  pub a_few : net_read bytes_a 5 3 0 ≡ refused (refusal 8 0)
  -- THE SECOND FORM: net A both ways, with source 0 and with source 2, and one post
  pub own_written_law : net_written own_net_a ≡ own_bytes_a
  pub own_read : net_read own_bytes_a 5 4 0 ≡ got own_net_a 27
  pub own_18 : write_refusal own_net_a 5 4 26 ≡ some (refusal 18 0)
  pub own_fits : write_refusal own_net_a 5 4 27 ≡ none
  pub own_8 : write_refusal own_net_a 5 3 27 ≡ some (refusal 8 0)
  pub two_written : net_written source_two_a ≡ 0 ∷ 4 ∷ 2 ∷ 1 ∷ 1 ∷ 5 ∷ 0 ∷ 1 ∷ 1 ∷ 1 ∷ 2 ∷ 1 ∷ bytes_s
  pub two_read : net_read (0 ∷ 4 ∷ 2 ∷ 1 ∷ 1 ∷ 5 ∷ 0 ∷ 1 ∷ 1 ∷ 1 ∷ 2 ∷ 1 ∷ bytes_s) 5 4 0 ≡ got source_two_a 27
  pub one_written : net_written the_one_post ≡ 0 ∷ 1 ∷ 0 ∷ 1 ∷ 2 ∷ 0 ∷ []
  pub one_read : net_read (0 ∷ 1 ∷ 0 ∷ 1 ∷ 2 ∷ 0 ∷ []) 0 1 0 ≡ got the_one_post 6
  -- "a first number 0 no longer gives 1, though a 0 after it does"
  pub five_after_zero : net_read (0 ∷ 0 ∷ 1 ∷ 1 ∷ 5 ∷ []) 0 0 0 ≡ refused (refusal 10 5)
  pub zero_after_zero : net_read (0 ∷ 0 ∷ 0 ∷ 1 ∷ 1 ∷ 0 ∷ []) 0 0 0 ≡ refused (refusal 1 0)
  pub first_eleven : net_read (128 ∷ 0 ∷ []) 0 0 0 ≡ refused (refusal 11 0)
  pub two_zeros : net_read (0 ∷ 0 ∷ []) 0 0 0 ≡ refused (refusal 10 2)
  -- a post's numbers, then its 3, then the next post's, in rising order and before the segments
  pub post_3 : net_read (0 ∷ 3 ∷ 0 ∷ 1 ∷ 1 ∷ 0 ∷ 1 ∷ 0 ∷ []) 0 3 0 ≡ refused (refusal 3 1)
  pub second_3 : net_read (0 ∷ 3 ∷ 0 ∷ 1 ∷ 1 ∷ 0 ∷ 1 ∷ 1 ∷ 1 ∷ 0 ∷ []) 0 3 0 ≡ refused (refusal 3 2)
  pub large_3 : net_read (0 ∷ 3 ∷ 0 ∷ 1 ∷ 1 ∷ 0 ∷ 145 ∷ 78 ∷ 1 ∷ []) 0 3 0 ≡ refused (refusal 3 1)
  pub large_10 : net_read (0 ∷ 3 ∷ 0 ∷ 1 ∷ 1 ∷ 0 ∷ 145 ∷ 78 ∷ []) 0 3 0 ≡ refused (refusal 10 8)
  pub post_11 : net_read (0 ∷ 3 ∷ 0 ∷ 1 ∷ 1 ∷ 0 ∷ 1 ∷ 128 ∷ 0 ∷ []) 0 3 0 ≡ refused (refusal 11 7)
  pub post_10 : net_read (0 ∷ 3 ∷ 0 ∷ 1 ∷ 1 ∷ 0 ∷ 1 ∷ 1 ∷ []) 0 3 0 ≡ refused (refusal 10 8)
  pub house_3 : net_read (0 ∷ 2 ∷ 0 ∷ 1 ∷ 0 ∷ 0 ∷ 1 ∷ 1 ∷ []) 0 2 0 ≡ refused (refusal 3 0)
  pub three_before_5 : net_read (0 ∷ 2 ∷ 0 ∷ 1 ∷ 2 ∷ 1 ∷ 1 ∷ 0 ∷ 0 ∷ 2 ∷ 4 ∷ []) 1 2 0 ≡ refused (refusal 3 1)
  pub five_after : net_read (0 ∷ 2 ∷ 0 ∷ 1 ∷ 2 ∷ 1 ∷ 1 ∷ 1 ∷ 0 ∷ 2 ∷ 4 ∷ []) 1 2 0 ≡ refused (refusal 5 0)
  pub twelve_after : net_read (0 ∷ 2 ∷ 0 ∷ 1 ∷ 2 ∷ 1 ∷ 1 ∷ 1 ∷ 0 ∷ 1 ∷ 4 ∷ 9 ∷ []) 1 2 0 ≡ refused (refusal 12 11)
