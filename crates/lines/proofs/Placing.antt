-- Text put into lent room: one byte, nothing, and one text behind another (`put_then`); what is put is determined (`put_unique`).
use mathlib.Core.Path.{◌≡◌, refl, sym, ◌∙◌}
use mathlib.Core.List.{List, [], ◌∷◌, ◌++◌, append-nil, append_assoc}
use Prim.Native.Nat.{ℕ, ◌+◌, ◌≤◌}
use native.Mathlib.Numerals.{add-one}
use native.Mathlib.Nat.{add_assoc, add-zero}
use native.Mathlib.Omega.{arith}
use lib.ListN.{length, take, drop, set, length-set, length-append, length-take, take-append-drop}
use lib.Seq.{set_split, append_snoc, take_at, drop_at, drop-drop}
use Rattle.lines.specs.Putting.{Put, Wrote}
use Rattle.lines.specs.declared.Text.{Text}

-- nothing put
pub put_none : (at : ℕ) (l : List ℕ) → at ≤ length l → Put [] at l l at
put_none at l h =
    record { behind = omega arith; holds = rw (append-nil, add-zero) (sym (take-append-drop at l)); fits = omega arith; same = refl }

-- the same for a text of the code
pub wrote_none : (a : Text) → a.at ≤ length a.room.now → Wrote [] a a
wrote_none a h = record { put = put_none a.at a.room.now h; room = refl }

-- one byte stored
pub put_one : (b at : ℕ) (l : List ℕ) → at + 1 ≤ length l → Put (b ∷ []) at l (set l at b) (at + 1)
put_one b at l h =
    record {
      behind = refl;
      holds = rw (append_snoc, add-one) (set_split l at b (omega arith));
      fits = h;
      same = length-set l at b;
    }

-- the room in front of the text's end
front_length : (t l : List ℕ) (at : ℕ) → at ≤ length l → length (take at l ++ t) ≡ at + length t
front_length t l at h = simp (length-append, length-take) (omega arith)

-- a text behind another is both put at once
pub put_then : {s t l x y : List ℕ} {at r z : ℕ} → Put s at l x r → Put t r x y z → Put (s ++ t) at l y z
put_then {s} {t} {l} {x} {y} {at} {r} {z} p q =
    let k : length (take at l ++ s) ≡ r = front_length s l at (omega arith) ∙ sym p.behind in
    let e₁ : take r x ≡ take at l ++ s = rw p.holds (take_at (take at l ++ s) (drop (at + length s) l) r k) in
    let e₂ : drop (r + length t) x ≡ drop (at + length (s ++ t)) l =
    rw (p.holds, ← drop-drop (length t) r, drop_at (take at l ++ s) (drop (at + length s) l) r k, drop-drop (length t) (at + length s) l, length-append s t, add_assoc)
    in
    record {
      behind = simp length-append (omega arith);
      holds = q.holds ∙ rw (e₁, e₂, append_assoc (take at l) s t);
      fits = simp length-append (omega arith);
      same = q.same ∙ p.same;
    }

pub wrote_then : {s t : List ℕ} {a b d : Text} → Wrote s a b → Wrote t b d → Wrote (s ++ t) a d
wrote_then p q = record { put = put_then p.put q.put; room = q.room ∙ p.room }

-- two outcomes for one text, one place and one room are equal
pub put_unique : {t l x y : List ℕ} {at r z : ℕ} → Put t at l x r → Put t at l y z → (r ≡ z) × (x ≡ y)
put_unique p q = (p.behind ∙ sym q.behind, p.holds ∙ sym q.holds)
