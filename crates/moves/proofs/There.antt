-- WHAT WAS MOVED: the front of the room reads as the net in the form that was wanted (`was_moved`, `moved_reads`), and there and back gives the old bytes (`home_again`): forward then back, and back then
-- forward. Relies on Forms, on Ruled and on reading's round trip.
use mathlib.Core.Path.{◌≡◌, refl, sym, ap, ◌∙◌}
use mathlib.Core.List.{List}
use mathlib.Core.Option.{Option, none, some}
use Prim.Native.Nat.{ℕ, ◌≤◌}
use native.Mathlib.Omega.{arith}
use lib.ListN.{length, take, drop}
use lib.Seq.{take_at}
use Rattle.net.specs.Net.{Net, most_posts, most_segments}
use Rattle.net.specs.declared.Form.{Form}
use Rattle.net.specs.declared.Form.TheVariants.{First, Second}
use Rattle.net.specs.declared.Refusal.{Refusal}
use Rattle.numbers.specs.Numbers.{Bytes, Got, got, refused as unread}
use Rattle.numbers.specs.Putting.{onto}
use Rattle.writing.specs.Writing.{net_written, after_writing}
use Rattle.writing.specs.Answers.{result, says_written, write_answer_by}
use Rattle.reading.proofs.RoundTrip.{ReadSound, sound_of_read, written_of_read, read_of_written}
use Rattle.on_records.specs.Asked.{record_read}
use Rattle.moves.specs.Moves.{in_form, move_refusal, move_of, room_moved, Moves}
use Rattle.moves.specs.Rules.{AllHouse, NetRule, nothing}
use Rattle.moves.proofs.Forms.{moved_kept, moved_house, moved_sound, there_and_back}
use Rattle.moves.proofs.Ruled.{net_answers, net_only}
use Rattle.std.specs.Prelude.{Result, Ok, Err}

-- an answer that says a length
says_size : (a : Result ℕ Refusal) {k : ℕ} → says_written a ≡ result k → a ≡ Ok k
says_size (Ok size) e = cc
says_size (Err r) e = let z : ◌≡◌ {A = ℕ} 0 1 = cc in absurd (omega arith)

-- there are two forms
third_form : (f g h : Form) → (f ≡ g → ⊥) → (h ≡ f → ⊥) → h ≡ g
third_form f First First x y = refl
third_form f Second Second x y = refl
third_form First First Second x y = absurd (x refl)
third_form Second First Second x y = absurd (y refl)
third_form First Second First x y = absurd (y refl)
third_form Second Second First x y = absurd (x refl)

-- a net that was read is sound
pub read_sound : (bytes : List ℕ) {n : Net} {next : ℕ} → record_read bytes ≡ got n next → ReadSound most_segments most_posts n
unfolding record_read
read_sound bytes {n} {next} e = sound_of_read bytes most_segments most_posts n next e

-- the net n was read, it was of the other form, every post had the house ratio, and its record in the form that was wanted stands at the front of the room, with what stood there behind it
pub record WasMoved (f : Form) (bytes room : List ℕ) (size : ℕ) (x : List ℕ) : Type 0 where
  pub n : Net
  pub next : ℕ
  pub is : record_read bytes ≡ got n next
  pub other_form : n.head.form ≡ f → ⊥
  pub all_house : AllHouse n
  pub size_is : size ≡ length (net_written (in_form f n))
  pub room_long : length (net_written (in_form f n)) ≤ length room
  pub room_is : x ≡ onto (net_written (in_form f n)) room

pub was_moved : (f : Form) (bytes room : List ℕ) {a : Result ℕ Refusal} {x : List ℕ} {size : ℕ} → Moves f bytes room a x → says_written a ≡ result size → WasMoved f bytes room size x
was_moved f bytes room {a} {x} {size} w s = go (record_read bytes) refl w.answers w.leaves
  where
    by_rule : (n : Net) (next : ℕ) → record_read bytes ≡ got n next → (o : Option Refusal) → NetRule f n (length room) o
        → a ≡ write_answer_by o (length (net_written (in_form f n))) → x ≡ after_writing o (in_form f n) room → WasMoved f bytes room size x
    by_rule n next e none (nothing ne all l) y z =
        let k = says_size a s in
        record { n = n; next = next; is = e; other_form = ne; all_house = all; size_is = cc; room_long = l; room_is = z }
    by_rule n next e (some q) r y z = let k = says_size a s in let z : ◌≡◌ {A = ℕ} 0 1 = cc in absurd (omega arith)

    go : (g : Got Net) → record_read bytes ≡ g → a ≡ move_of f g (length room) → x ≡ room_moved f g room → WasMoved f bytes room size x
    go (got n next) e y z = by_rule n next e (move_refusal f n (length room)) (net_answers f n (length room)) y z
    go (unread r) e y z = let k = says_size a s in let z : ◌≡◌ {A = ℕ} 0 1 = cc in absurd (omega arith)

module _ {f : Form} {bytes room : List ℕ} {size : ℕ} {x : List ℕ} (w : WasMoved f bytes room size x) where
  pub moved_front : take size x ≡ net_written (in_form f w.n)
  moved_front = rw w.room_is (take_at (net_written (in_form f w.n)) (drop (length (net_written (in_form f w.n))) room) size (sym w.size_is))

  -- THE FRONT OF THE ROOM READS as the net in the form that was wanted
  pub moved_reads : record_read (take size x) ≡ got (in_form f w.n) size
  unfolding record_read in_form
  moved_reads =
      let s = read_sound bytes w.is in
      let e = read_of_written (in_form f w.n) most_segments most_posts (moved_sound f w.n (length w.n.segments) s.sound) (moved_kept f w.n) s.room_enough s.ratios_enough in
      rw (moved_front, w.size_is) e

-- THERE AND BACK, from the form g to the form f and home again
module _ {f g : Form} (apart : f ≡ g → ⊥) {bytes room : List ℕ} {size : ℕ} {x : List ℕ} (all : Bytes bytes) (w : WasMoved f bytes room size x) where
  form_is : w.n.head.form ≡ g
  form_is = third_form f g w.n.head.form apart w.other_form

  old : net_written w.n ≡ bytes
  unfolding record_read
  old = (written_of_read bytes most_segments most_posts w.n w.next all w.is).written_is

  home : net_written (in_form g (in_form f w.n)) ≡ bytes
  home = ap net_written (there_and_back f w.n form_is (read_sound bytes w.is).kept w.all_house) ∙ old

  form_moved : (in_form f w.n).head.form ≡ f
  unfolding in_form
  form_moved = refl

  nothing_refuses : (room₂ : ℕ) → length bytes ≤ room₂ → move_refusal g (in_form f w.n) room₂ ≡ none
  nothing_refuses room₂ long = net_only g (in_form f w.n) room₂ (nothing (λ e. apart (sym form_moved ∙ e)) (moved_house f w.n) (rw home long))

  pub home_again : (room₂ : List ℕ) {b : Result ℕ Refusal} {y : List ℕ} → Moves g (take size x) room₂ b y → length bytes ≤ length room₂ → (says_written b ≡ result (length bytes)) × (y ≡ onto bytes room₂)
  home_again room₂ back long =
      let r = moved_reads w in
      let z = nothing_refuses (length room₂) long in
      let e = rw (r, z, home) at back.answers in
      (ap says_written e, rw (r, z, home) at back.leaves)
