-- What the program that moves a record hands on: the record in the form that is wanted, for standard output, or the one
-- line of a refusal, for standard error. Relies on `moves` for the move of a record, and on lines for the text.
use Rattle.std.specs.Prelude.{◌≡◌, cond, List, ℕ, eqb, length, take, Result, Ok, Err}
use Rattle.std.proofs.Math.Option.{Option, none, some}
use Rattle.net.specs.Net.{Net}
use Rattle.net.specs.declared.Form.{Form}
use Rattle.net.specs.declared.Form.TheVariants.{First, Second}
use Rattle.net.specs.declared.Refusal.{Refusal}
use Rattle.numbers.specs.Numbers.{Got, got, refused}
use Rattle.writing.specs.Writing.{net_written}
use Rattle.reading.specs.Reading.{enough_bytes, longest_record}
use Rattle.on_records.specs.Asked.{record_read}
use Rattle.moves.specs.Moves.{in_form, move_refusal}
use Rattle.lines.specs.Text.{refused_line}
use Rattle.lines.specs.Putting.{Put}

-- WHERE TO, by the byte that the program is given before the record: the digit 1 says the first form, every other byte
-- the second
abbrev pub the_wanted_by : ℕ → Form
the_wanted_by way = cond (eqb way 49) First Second

-- WHAT IS HANDED ON: bytes for standard output, or a line for standard error
pub data Handing : Type 0 where
  for_output : List ℕ → Handing
  for_error : List ℕ → Handing

abbrev pub text_of : Handing → List ℕ
text_of (for_output bytes) = bytes
text_of (for_error line) = line

-- a record that nothing refuses, or the line of its refusal
abbrev pub handing_by : Option Refusal → List ℕ → Handing
handing_by none bytes = for_output bytes
handing_by (some r) bytes = for_error (refused_line r.number r.place)

-- of the net that was read, in the form that is wanted, with room for the longest good record; or of reading's refusal
abbrev pub handing_of : Form → Got Net → Handing
handing_of wanted (got n next) = handing_by (move_refusal wanted n longest_record) (net_written (in_form wanted n))
handing_of wanted (refused r) = for_error (refused_line r.number r.place)

-- for these bytes of a record
unfoldable pub handing : Form → List ℕ → Handing
handing wanted bytes = handing_of wanted (record_read bytes)

-- of a move's answer, with what the room holds then: what is handed on for the record that was moved (proofs/Given)
abbrev pub answer_handing : Result ℕ Refusal → List ℕ → Handing
answer_handing (Ok size) x = for_output (take size x)
answer_handing (Err r) x = for_error (refused_line r.number r.place)

-- the code's answer: how many bytes of the room are handed on, and where to. Those of a record that was moved, or as an
-- error the line of a refusal
abbrev pub Handed : Type 0
Handed = Result ℕ ℕ

abbrev pub handed_as : Handing → Handed
handed_as (for_output bytes) = Ok (length bytes)
handed_as (for_error line) = Err (length line)

-- what is handed on is put at the front of the room that held `out`; r is the answer
pub record Hands (h : Handing) (out : List ℕ) (r : Handed) (out' : List ℕ) : Type 0 where
  pub answers : r ≡ handed_as h
  pub puts : Put (text_of h) 0 out out' (length (text_of h))

-- HAND ON: the room for what is read has as many bytes as are enough, and what is handed on is that of the first n of
-- them, moved to the form that `way` says
pub record HandsOn (way : ℕ) (input : List ℕ) (n : ℕ) (out : List ℕ) (r : Handed) (out' : List ℕ) : Type 0 where
  pub enough : length input ≡ enough_bytes
  pub hands : Hands (handing (the_wanted_by way) (take n input)) out r out'
