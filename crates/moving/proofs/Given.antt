-- From what a move answers and leaves to what is handed on: of a record that was moved (`moved_hands`), and of one that
-- was refused, whose line is put into the room as it was (`refused_hands`); of either answer (`answer_handing_law`). Two
-- outcomes are equal (`hands_one`). Relies on the laws of `moves`.
use mathlib.Core.Path.{◌≡◌, refl, sym, ap, subst, ◌∙◌}
use mathlib.Core.List.{List}
use mathlib.Core.Option.{Option, none, some}
use Prim.Native.Nat.{ℕ, ◌≤◌}
use native.Mathlib.Nat.{zero-add}
use native.Mathlib.Omega.{arith}
use lib.ListN.{length, length-append, length-drop}
use Rattle.std.specs.Prelude.{Result, Ok, Err}
use Rattle.net.specs.Net.{Net}
use Rattle.net.specs.declared.Form.{Form}
use Rattle.net.specs.declared.Refusal.{Refusal}
use Rattle.numbers.specs.Numbers.{Got, got, refused}
use Rattle.numbers.specs.Putting.{onto}
use Rattle.writing.specs.Writing.{net_written, after_writing}
use Rattle.writing.specs.Answers.{write_answer_by}
use Rattle.reading.specs.Reading.{longest_record}
use Rattle.on_records.specs.Asked.{record_read}
use Rattle.moves.specs.Moves.{in_form, move_refusal, move_of, room_moved, Moves}
use Rattle.moves.specs.Rules.{nothing}
use Rattle.moves.proofs.Ruled.{net_only}
use Rattle.moves.proofs.There.{WasMoved, was_moved, moved_front}
use Rattle.lines.specs.Text.{refused_line}
use Rattle.lines.specs.Putting.{Put}
use Rattle.moving.specs.Handing.{Handing, for_output, for_error, handing_by, handing_of, handing, answer_handing, Handed, handed_as, text_of, Hands}

-- what is handed on is anything that equals it
pub hands_same : {g h : Handing} {out x : List ℕ} {r : Handed} → Hands g out r x → g ≡ h → Hands h out r x
hands_same {g} {h} {out} {x} {r} p e = subst (λ k. Hands k out r x) e p

-- a record put at the front of a room that takes it
put_front : (t out : List ℕ) → length t ≤ length out → Put t 0 out (onto t out) (length t)
put_front t out k =
    record {
      behind = omega arith;
      holds = rw (zero-add (length t));
      fits = omega arith;
      same = rw (length-append, length-drop) (omega arith);
    }

module _ (f : Form) (bytes out : List ℕ) (l : length out ≡ longest_record) where
  -- A RECORD THAT WAS MOVED
  module _ {size : ℕ} {x : List ℕ} (w : WasMoved f bytes out size x) where
    output_is : for_output (net_written (in_form f w.n)) ≡ handing f bytes
    unfolding handing
    output_is =
        let k = w.room_long in
        sym (ap (handing_of f) w.is ∙ ap (λ o. handing_by o (net_written (in_form f w.n))) (net_only f w.n longest_record (nothing w.other_form w.all_house (omega arith))))

    was_hands : Hands (handing f bytes) out (Ok size) x
    was_hands =
        let p : Put (net_written (in_form f w.n)) 0 out x (length (net_written (in_form f w.n))) =
        subst (λ y. Put (net_written (in_form f w.n)) 0 out y (length (net_written (in_form f w.n)))) (sym w.room_is) (put_front _ _ w.room_long) in
        hands_same (record { answers = ap Ok w.size_is; puts = p }) output_is

  pub moved_hands : {x : List ℕ} {size : ℕ} → Moves f bytes out (Ok size) x → Hands (handing f bytes) out (Ok size) x
  moved_hands m = was_hands (was_moved f bytes out m refl)

  -- A REFUSAL, of reading or of the move: the room is as it was
  module _ {q : Refusal} {x : List ℕ} where
    of_net : (n : Net) (o : Option Refusal) → Err q ≡ write_answer_by o (length (net_written (in_form f n))) → x ≡ after_writing o (in_form f n) out
        → (x ≡ out) × (for_error (refused_line q.number q.place) ≡ handing_by o (net_written (in_form f n)))
    of_net n none e r = absurd (let z : ◌≡◌ {A = ℕ} 0 1 = cc in omega arith)
    of_net n (some p) e r = (r, cc e)

    of_read : (g : Got Net) → Err q ≡ move_of f g longest_record → x ≡ room_moved f g out
        → (x ≡ out) × (for_error (refused_line q.number q.place) ≡ handing_of f g)
    of_read (got n next) e r = of_net n (move_refusal f n longest_record) e (r ∙ ap (λ k. after_writing (move_refusal f n k) (in_form f n) out) l)
    of_read (refused p) e r = (r, cc e)

  pub refused_hands : {x y : List ℕ} {q : Refusal} {k : ℕ} → Moves f bytes out (Err q) x → Put (refused_line q.number q.place) 0 x y k
      → Hands (handing f bytes) out (Err k) y
  unfolding handing
  refused_hands {x} {y} {q} {k} m p =
      let b = of_read {q = q} {x = x} (record_read bytes) (m.answers ∙ ap (move_of f (record_read bytes)) l) m.leaves in
      let s : k ≡ length (refused_line q.number q.place) = p.behind ∙ zero-add _ in
      let t : Put (refused_line q.number q.place) 0 out y (length (refused_line q.number q.place)) =
      subst (λ j. Put (refused_line q.number q.place) 0 out y j) s (subst (λ z. Put (refused_line q.number q.place) 0 z y k) b.0 p) in
      hands_same (record { answers = ap Err s; puts = t }) b.1

  -- EITHER ANSWER: what is handed on for the record
  pub answer_handing_law : (a : Result ℕ Refusal) {x : List ℕ} → Moves f bytes out a x → handing f bytes ≡ answer_handing a x
  unfolding handing
  answer_handing_law (Ok size) m = let w = was_moved f bytes out m refl in sym (output_is w) ∙ ap for_output (sym (moved_front w))
  answer_handing_law (Err q) m = sym (of_read (record_read bytes) (m.answers ∙ ap (move_of f (record_read bytes)) l) m.leaves).1

-- TWO OUTCOMES ARE EQUAL
pub hands_one : {h : Handing} {out x y : List ℕ} {r s : Handed} → Hands h out r x → Hands h out s y → (r ≡ s) × (x ≡ y)
hands_one p q = (p.answers ∙ sym q.answers, p.puts.holds ∙ sym q.puts.holds)

-- what is handed on for a form and bytes is that for any that equal them
pub hands_by : {f g : Form} {s t out x : List ℕ} {r : Handed} → f ≡ g → s ≡ t → Hands (handing f s) out r x → Hands (handing g t) out r x
hands_by {f} {g} {s} {t} e d p = hands_same p (ap (λ h. handing h s) e ∙ ap (handing g) d)

-- HOW MANY BYTES are handed on: no more than there is room for
abbrev pub size_of : Handed → ℕ
size_of (Ok k) = k
size_of (Err k) = k

size_is : (h : Handing) → size_of (handed_as h) ≡ length (text_of h)
size_is (for_output t) = refl
size_is (for_error t) = refl

pub hands_fit : {h : Handing} {out x : List ℕ} {r s : Handed} → Hands h out r x → r ≡ s → size_of s ≤ length x
hands_fit {h} p e = omega (arith, ap size_of (sym e ∙ p.answers) ∙ size_is h, p.puts.fits, p.puts.same)
