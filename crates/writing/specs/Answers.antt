-- What the answer of writing says in document 01's words: "either a result or a refusal with its number and its
-- place". The contracts of the code are equations with these. Relies on `Writing`.
use Rattle.std.specs.Prelude.{ℕ, ◌≡◌, List, length, Result, Ok, Err}
use Rattle.std.proofs.Math.Option.{Option, none, some}
use Rattle.net.specs.Net.{Net}
use Rattle.net.specs.declared.Refusal.{Refusal}
use Rattle.writing.specs.Writing.{net_written, write_refusal, the_room_after}

-- "An answer is either a result or a refusal"
pub data Said (X : Type 0) : Type 0 where
  result : X → Said X
  refusal_of : Refusal → Said X

-- the record's length, or a refusal
abbrev pub write_answer_by : Option Refusal → ℕ → Result ℕ Refusal
write_answer_by none size = Ok size
write_answer_by (some r) size = Err r

unfoldable pub write_answer_of : Net → ℕ → ℕ → ℕ → Result ℕ Refusal
write_answer_of n m k room = write_answer_by (write_refusal n m k room) (length (net_written n))

abbrev pub said_size : Option Refusal → ℕ → Said ℕ
said_size none size = result size
said_size (some r) size = refusal_of r

abbrev pub says_written : Result ℕ Refusal → Said ℕ
says_written (Ok size) = result size
says_written (Err r) = refusal_of r

-- what writing does: the answer, and the room afterwards
pub record Writes (n : Net) (m k : ℕ) (room : List ℕ) (answer : Result ℕ Refusal) (after : List ℕ) : Type 0 where
  pub answers : answer ≡ write_answer_of n m k (length room)
  pub leaves : after ≡ the_room_after n m k room
