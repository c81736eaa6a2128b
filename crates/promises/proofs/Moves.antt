-- Moves: that a move which says a length is as stated, that there and back gives the old bytes, and when back is possible. From the contracts of the moves and the laws of `moves`.
use mathlib.Core.Path.{◌≡◌, refl, sym, ap, ◌∙◌}
use mathlib.Core.List.{List}
use Prim.Native.Nat.{ℕ}
use native.Mathlib.Omega.{arith}
use lib.ListN.{length}
use Rattle.net.specs.Net.{Ratio}
use Rattle.net.specs.declared.Form.{Form}
use Rattle.net.specs.declared.Form.TheVariants.{First, Second}
use Rattle.writing.specs.Answers.{result, says_written}
use Rattle.numbers.specs.Putting.{onto}
use Rattle.moves.specs.Moves.{in_form, Moves, ToFirst}
use Rattle.moves.proofs.Forms.{moved_kept, moved_house}
use Rattle.moves.proofs.There.{was_moved, moved_front, moved_reads, read_sound, home_again}
use Rattle.moves.proofs.Outcomes.{no_twenty, equal_no_twenty}
use Rattle.moves.proofs.Alike.{ratio_is_house, tree_moved, build_moved, margin_moved}
use Rattle.promises.specs.Moves.{BackExactly, MovedAsStated, MovesBothWays}
use Rattle.net.specs.declared.Refusal.{Refusal}
use Rattle.std.specs.Prelude.{Result}

pub moved_as_stated : (f : Form) (bytes room : List ℕ) {a : Result ℕ Refusal} {x : List ℕ} {size : ℕ} → Moves f bytes room a x → says_written a ≡ result size → MovedAsStated f bytes room size x
unfolding in_form
moved_as_stated f bytes room moves says =
    let w = was_moved f bytes room moves says in
    let s = read_sound bytes w.is in
    record {
      n = w.n;
      next = w.next;
      read_is = w.is;
      other_form = w.other_form;
      reads = moved_reads w;
      behind = w.room_is ∙ ap (λ (z : List ℕ). onto z room) (sym (moved_front w));
      head_is = refl;
      segments_are = refl;
      all_as_house = λ v h ne. (let z = ratio_is_house (in_form f w.n) (moved_kept f w.n) (moved_house f w.n) v h in (ap (λ (r : Ratio). r.p) z, ap (λ (r : Ratio). r.q) z));
      same_looms = record {
        trees = tree_moved f w.n (length w.n.segments) s.sound s.kept w.all_house;
        answers = build_moved f w.n (length w.n.segments) s.sound s.kept w.all_house;
        margins = margin_moved f w.n (length w.n.segments) s.sound s.kept w.all_house;
      };
    }

apart : Second ≡ First → ⊥
apart e = let z : ◌≡◌ {A = ℕ} 0 1 = cc in omega arith

pub moves_both_ways : MovesBothWays
moves_both_ways =
    record {
      forward_then_back = λ bytes room room₂ all there said back long. home_again apart all (was_moved Second bytes room there said) room₂ back long;
      back_then_forward = λ bytes room room₂ all there said back long. home_again (λ e. apart (sym e)) all (was_moved First bytes room there said) room₂ back long;
    }

pub back_exactly : (bytes room : List ℕ) {a : Result ℕ Refusal} {x : List ℕ} → ToFirst bytes room a x → BackExactly bytes a
back_exactly bytes room w n next e second = (no_twenty bytes e second room w, equal_no_twenty bytes e second room w)
