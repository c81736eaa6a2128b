-- The room for what is handed on takes the record of every net that was read, in either form (`room_enough`), so that 18
-- is never given (`no_eighteen`). Relies on the laws of `moves`, and on reading's for the longest record.
use mathlib.Core.Path.{◌≡◌, ap}
use mathlib.Core.List.{List}
use mathlib.Core.Option.{Option, none, some}
use Prim.Native.Nat.{ℕ, ◌≤◌}
use native.Mathlib.Omega.{arith}
use lib.ListN.{length}
use Rattle.net.specs.Net.{Net}
use Rattle.net.specs.Refusals.{refusal}
use Rattle.net.specs.declared.Form.{Form}
use Rattle.net.specs.declared.Refusal.{Refusal}
use Rattle.numbers.specs.Numbers.{got}
use Rattle.writing.specs.Writing.{net_written}
use Rattle.reading.specs.Reading.{longest_record}
use Rattle.reading.proofs.Lengths.{written_longest}
use Rattle.on_records.specs.Asked.{record_read}
use Rattle.moves.specs.Moves.{in_form, move_refusal}
use Rattle.moves.specs.Rules.{NetRule, thirty, twenty, eighteen, nothing}
use Rattle.moves.proofs.Forms.{moved_kept, moved_sound}
use Rattle.moves.proofs.Ruled.{net_answers}
use Rattle.moves.proofs.There.{read_sound}

-- the number of a refusal, and 0 where there is none
abbrev number_in : Option Refusal → ℕ
number_in none = 0
number_in (some r) = r.number

module _ (f : Form) (bytes : List ℕ) {n : Net} {next : ℕ} (e : record_read bytes ≡ got n next) where
  pub room_enough : length (net_written (in_form f n)) ≤ longest_record
  unfolding in_form
  room_enough = written_longest (in_form f n) (moved_sound f n (length n.segments) (read_sound bytes e).sound) (moved_kept f n)

  pub no_eighteen : (place : ℕ) → move_refusal f n longest_record ≡ some (refusal 18 place) → ⊥
  no_eighteen place said = go (move_refusal f n longest_record) (net_answers f n longest_record) (ap number_in said)
    where
      go : (o : Option Refusal) → NetRule f n longest_record o → number_in o ≡ 18 → ⊥
      go (some r) (thirty same) k = omega arith
      go (some r) (twenty ne l) k = omega arith
      go (some r) (eighteen ne all l) k = omega (arith, room_enough)
      go none (nothing ne all l) k = omega arith
