-- Bytes put on a page, lent room in which a record ends at a place: what the room holds afterwards, and where the
-- record ends then. The methods of the code ask and promise it. Relies on `put` of the crate `numbers`.
use Rattle.std.specs.Prelude.{ℕ, ◌+◌, ◌≤◌, ◌≡◌, List, length}
use Rattle.numbers.specs.Putting.{put}
use Rattle.writing.specs.declared.Page.{Page}

-- there is room for bytes behind what stands in a
abbrev pub HasRoom : List ℕ → Page → Type 0
HasRoom w a = a.at + length w ≤ length a.room.now

-- the bytes are put behind what stands in a, and b ends behind them, in the same room. The first two decide b's place
-- and bytes; the next two follow from what is asked of the room
pub record Wrote (w : List ℕ) (a b : Page) : Type 0 where
  pub behind : b.at ≡ a.at + length w
  pub holds : b.room.now ≡ put a.at w a.room.now
  pub fits : a.at + length w ≤ length a.room.now
  pub same : length b.room.now ≡ length a.room.now
  pub room : b.room.ghost_name ≡ a.room.ghost_name
