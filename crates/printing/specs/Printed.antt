-- What the program prints for the bytes of a record: the five lines of the net that was read, or the one line of a
-- refusal, of reading or of building. Relies on `on_records` for the net that a record holds, on net for its trees, and
-- on lines for the text.
use Rattle.std.specs.Prelude.{◌≡◌, List, ℕ, length, take, Result, Ok, Err}
use Rattle.net.specs.Net.{Net, every, most_posts}
use Rattle.net.specs.Refusals.{Lent}
use Rattle.net.specs.Building.{built, lightest_of, shortest_of, between_of, build_of}
use Rattle.net.specs.declared.Plan.{Plan}
use Rattle.net.specs.declared.Refusal.{Refusal}
use Rattle.numbers.specs.Numbers.{Got, got, refused}
use Rattle.on_records.specs.Asked.{record_read}
use Rattle.reading.specs.Reading.{enough_bytes}
use Rattle.lines.specs.Text.{refused_line, program_text}
use Rattle.lines.specs.Putting.{Put}

-- the program lends lists with as many entries as a net may have posts
abbrev pub lists : Lent
lists = record { lightest = most_posts; shortest = most_posts; between = most_posts }

-- the lines of a net, or of reading's refusal
abbrev pub lines_for : Got Net → List ℕ
lines_for (got n next) = program_text n.head (length n.segments)
    (build_of every n (length n.segments) most_posts lists) (lightest_of every n) (shortest_of every n)
    (between_of every n)
lines_for (refused r) = refused_line r.number r.place

-- what is printed for these bytes
unfoldable pub printed : List ℕ → List ℕ
printed bytes = lines_for (record_read bytes)

-- the lines of a plan, with the three lists that planning leaves
abbrev pub lines_of : Plan → List ℕ → List ℕ → List ℕ → List ℕ
lines_of plan l s w = program_text plan.head plan.count
    (built plan.built.lightest plan.built.shortest plan.built.between plan.built.laid) l s w

-- the text of a plan's answer: what is printed for the record that was planned (proofs/Printing)
abbrev pub answer_text : Result Plan Refusal → List ℕ → List ℕ → List ℕ → List ℕ
answer_text (Ok plan) l s w = lines_of plan l s w
answer_text (Err r) l s w = refused_line r.number r.place

-- PRINT: the room for what is read has as many bytes as are enough, and what is printed for the first n of them is put
-- at the front of the room that held `out`; r is how many bytes that is
pub record Prints (input : List ℕ) (n : ℕ) (out : List ℕ) (r : ℕ) (out' : List ℕ) : Type 0 where
  pub enough : length input ≡ enough_bytes
  pub puts : Put (printed (take n input)) 0 out out' r
