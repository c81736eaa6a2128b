-- Moves worked by hand, a row for each: the record, the room before, the answer, and the room afterwards. `nines` are
-- rooms that hold 99 everywhere; net A's segments are reading's `bytes_s`, its record in the first form `bytes_a`.
-- Definitions only. proofs/Worked computes all rows as one theorem, and the crate `promises` joins them to the one
-- table.
use Rattle.std.specs.Prelude.{List, [], ◌∷◌, ◌++◌, ℕ, replicate}
use Rattle.net.specs.Refusals.{refusal}
use Rattle.reading.specs.Worked.{bytes_s, bytes_a}
use Rattle.moves.specs.Moves.{ToSecond, ToFirst}
use Rattle.net.specs.declared.Refusal.{Refusal}
use Rattle.std.specs.Prelude.{Result, Ok, Err}

abbrev nines : ℕ → List ℕ
nines k = replicate k 99

abbrev no : ℕ → ℕ → Result ℕ Refusal
no number place = Err (refusal number place)

-- net A in the second form, where every post has the house ratio 1/1
abbrev pub house_a : List ℕ
house_a = 0 ∷ 4 ∷ 0 ∷ 1 ∷ 1 ∷ 5 ∷ 1 ∷ 1 ∷ 1 ∷ 1 ∷ 1 ∷ 1 ∷ bytes_s

-- net A where posts 2 and 3 have the ratio 2/1 and 1/2, and where the source is 1 and post 0 has 1/2
abbrev two_others : List ℕ
two_others = 0 ∷ 4 ∷ 0 ∷ 1 ∷ 1 ∷ 5 ∷ 1 ∷ 1 ∷ 2 ∷ 1 ∷ 1 ∷ 2 ∷ bytes_s

abbrev source_one : List ℕ
source_one = 0 ∷ 4 ∷ 1 ∷ 1 ∷ 1 ∷ 5 ∷ 1 ∷ 2 ∷ 1 ∷ 1 ∷ 1 ∷ 1 ∷ bytes_s

-- a record, and what it is after the move, in front of a room
abbrev ahead : List ℕ → ℕ → List ℕ
ahead bytes k = bytes ++ nines k

pub record MovesWorked : Type 0 where
  -- net A forward and back; a room that is one byte too short
  pub a_forward : ToSecond bytes_a (nines 30) (Ok 27) (ahead house_a 3)
  pub a_forward_short : ToSecond bytes_a (nines 26) (no 18 0) (nines 26)
  pub a_back : ToFirst house_a (nines 22) (Ok 20) (ahead bytes_a 2)
  pub a_back_short : ToFirst house_a (nines 19) (no 18 0) (nines 19)
  -- two posts: the ratio is that of the post which isn't the source
  pub source_0 : ToSecond (2 ∷ 0 ∷ 1 ∷ 2 ∷ 1 ∷ 0 ∷ 1 ∷ 172 ∷ 2 ∷ []) (nines 20) (Ok 12)
      (ahead (0 ∷ 2 ∷ 0 ∷ 1 ∷ 2 ∷ 1 ∷ 1 ∷ 2 ∷ 0 ∷ 1 ∷ 172 ∷ 2 ∷ []) 8)
  pub source_1 : ToSecond (2 ∷ 1 ∷ 1 ∷ 2 ∷ 1 ∷ 0 ∷ 1 ∷ 172 ∷ 2 ∷ []) (nines 20) (Ok 12)
      (ahead (0 ∷ 2 ∷ 1 ∷ 1 ∷ 2 ∷ 1 ∷ 1 ∷ 2 ∷ 0 ∷ 1 ∷ 172 ∷ 2 ∷ []) 8)
  -- p is 200, two bytes; three posts and no segment
  pub two_bytes : ToSecond (3 ∷ 1 ∷ 200 ∷ 1 ∷ 3 ∷ 0 ∷ []) (nines 40) (Ok 13)
      (ahead (0 ∷ 3 ∷ 1 ∷ 200 ∷ 1 ∷ 3 ∷ 0 ∷ 200 ∷ 1 ∷ 3 ∷ 200 ∷ 1 ∷ 3 ∷ []) 27)
  -- one post both ways; two posts that aren't joined
  pub one_forward : ToSecond (1 ∷ 0 ∷ 1 ∷ 2 ∷ 0 ∷ []) (nines 8) (Ok 6) (ahead (0 ∷ 1 ∷ 0 ∷ 1 ∷ 2 ∷ 0 ∷ []) 2)
  pub one_back : ToFirst (0 ∷ 1 ∷ 0 ∷ 1 ∷ 2 ∷ 0 ∷ []) (nines 8) (Ok 5) (ahead (1 ∷ 0 ∷ 1 ∷ 2 ∷ 0 ∷ []) 3)
  pub apart : ToSecond (2 ∷ 0 ∷ 1 ∷ 2 ∷ 0 ∷ []) (nines 20) (Ok 8)
      (ahead (0 ∷ 2 ∷ 0 ∷ 1 ∷ 2 ∷ 0 ∷ 1 ∷ 2 ∷ []) 12)
  -- 30 before 20 and 18
  pub thirty_forward : ToSecond two_others [] (no 30 0) []
  pub thirty_back : ToFirst bytes_a [] (no 30 0) []
  -- 20 before 18: as numbers; the lowest; the source isn't asked
  pub as_numbers : ToFirst (0 ∷ 2 ∷ 0 ∷ 1 ∷ 1 ∷ 1 ∷ 2 ∷ 2 ∷ 0 ∷ 1 ∷ 4 ∷ []) [] (no 20 1) []
  pub the_lowest : ToFirst two_others [] (no 20 2) []
  pub not_the_source : ToFirst source_one [] (no 20 0) []
  -- the reader's before all
  pub twelve : ToSecond (2 ∷ 0 ∷ 1 ∷ 2 ∷ 1 ∷ 0 ∷ 1 ∷ 172 ∷ 2 ∷ 7 ∷ []) [] (no 12 9) []
  pub three : ToFirst (0 ∷ 2 ∷ 0 ∷ 1 ∷ 1 ∷ 1 ∷ 2 ∷ 0 ∷ 0 ∷ 1 ∷ 4 ∷ []) [] (no 3 1) []
  pub empty : ToSecond [] [] (no 10 0) []
