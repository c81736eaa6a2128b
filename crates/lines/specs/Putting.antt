-- Text put into lent room: what the room holds afterwards, and where the text ends. Assumes nothing.
use Rattle.std.specs.Prelude.{◌≡◌, List, ◌++◌, ℕ, ◌+◌, ◌≤◌, length, take, drop}
use Rattle.lines.specs.declared.Text.{Text}

-- Of the room that held l the text stands from `at` on in x, and all else is as it was; r is the place behind the text.
-- The first two decide r and x; the others follow from what is asked of the room.
pub record Put (text : List ℕ) (at : ℕ) (l x : List ℕ) (r : ℕ) : Type 0 where
  pub behind : r ≡ at + length text
  pub holds : x ≡ take at l ++ text ++ drop (at + length text) l
  pub fits : at + length text ≤ length l
  pub same : length x ≡ length l

-- there is room for a text behind what stands in a
abbrev pub HasRoom : List ℕ → Text → Type 0
HasRoom text a = a.at + length text ≤ length a.room.now

-- the text is put behind what stands in a, and b stands behind it, in the same room
pub record Wrote (text : List ℕ) (a b : Text) : Type 0 where
  pub put : Put text a.at a.room.now b.room.now b.at
  pub room : b.room.ghost_name ≡ a.room.ghost_name

-- room for the longest text
abbrev pub most_text : ℕ
most_text = 8192
