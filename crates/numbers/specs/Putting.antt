-- Bytes put into a room, and the part that a number's writer hands back. Relies on `Numbers`; the record's writing
-- stands on it.
use Rattle.std.specs.Prelude.{ℕ, ◌+◌, ◌<◌, ◌≡◌, ◌&&◌, cond, List, [], ◌++◌, ltb, leb, length, take, drop}
use Rattle.numbers.specs.Numbers.{most_numbers, written}

-- the bytes s at the front of a list, and behind them what stood there
abbrev pub onto : List ℕ → List ℕ → List ℕ
onto s l = s ++ drop (length s) l

-- the bytes s in a list from the entry i on
abbrev pub put : ℕ → List ℕ → List ℕ → List ℕ
put i s l = take i l ++ (s ++ drop (i + length s) l)

-- the part that a number's writer hands back: the number's bytes, or nothing where it has more than four groups or the
-- room is too short
unfoldable pub part_of : ℕ → List ℕ → List ℕ
part_of n l = cond (ltb n most_numbers && leb (length (written n)) (length l)) (written n) []

-- a number of at most four groups, and a room that is just as long as it
pub record Fits (n : ℕ) (l : List ℕ) : Type 0 where
  pub few : n < most_numbers
  pub long : length l ≡ length (written n)
