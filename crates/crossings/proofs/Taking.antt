-- The laws of `take_in`: what the three lists hold after i segments, what they come to (`taken`), and that it has one outcome. Rests on the laws of `laid` (`Lists`). Assumes nothing.
use mathlib.Core.Path.{◌≡◌, refl, sym, ap, ◌∙◌}
use mathlib.Core.List.{List, [], ◌∷◌, ◌++◌, map}
use Prim.Native.Nat.{ℕ, ◌+◌, ◌<◌, ◌≤◌}
use native.Mathlib.Omega.{arith}
use lib.ListN.{length, get_or, set, take, drop, length-map, get_or-map}
use lib.Seq.{take_all, take_at}
use Rattle.net.specs.Net.{ratios_of, segments_of, nth_segment, beyond}
use Rattle.net.specs.Refusals.{Checked, check_of}
use Rattle.net.specs.declared.Segment.{Segment}
use Rattle.net.specs.declared.Head.{Head}
use Rattle.net.specs.declared.Refusal.{Refusal}
use Rattle.std.specs.Prelude.{Ok, Err}
use Rattle.crossings.specs.Lists.{TakenIn, laid}
use Rattle.crossings.proofs.Lists.{laid_more, laid_length}

-- the fields of a list's segments
abbrev pub field_a : Segment → ℕ
field_a s = s.a

abbrev pub field_b : Segment → ℕ
field_b s = s.b

abbrev pub field_length : Segment → ℕ
field_length s = s.length

-- the list of one field, one place further: what is stored at i is segment i's
pub field_more : (f : Segment → ℕ) → f beyond ≡ 0 → (l : List Segment) (x : List ℕ) (i : ℕ) → i < length l → i < length x → set (laid i (map f l) x) i (f (nth_segment l i)) ≡ laid (i + 1) (map f l) x
field_more f z l x i h k =
    let e : get_or (map f l) i 0 ≡ f (nth_segment l i) = ap (λ (d : ℕ). get_or (map f l) i d) (sym z) ∙ get_or-map f l i beyond in
    ap (λ (v : ℕ). set (laid i (map f l) x) i v) (sym e) ∙ laid_more i (map f l) x 0 (omega (arith, length-map l f)) k

pub field_length_law : (f : Segment → ℕ) (l : List Segment) (x : List ℕ) (i : ℕ) → i ≤ length l → i ≤ length x → length (laid i (map f l) x) ≡ length x
field_length_law f l x i h k = laid_length i (map f l) x (omega (arith, length-map l f)) k

-- and all of it, at the front
field_all : (f : Segment → ℕ) (l : List Segment) (x : List ℕ) → take (length l) (laid (length l) (map f l) x) ≡ map f l
field_all f l x =
    ap (λ (w : List ℕ). take (length l) (w ++ drop (length l) x)) (take_all (length l) (map f l) (omega (arith, length-map l f))) ∙ take_at (map f l) (drop (length l) x) (length l) (length-map l f)

-- a list's fields side by side are the list
side_by_side : (l : List Segment) → segments_of (map field_a l) (map field_b l) (map field_length l) ≡ l
side_by_side [] = refl
side_by_side (s ∷ l) = ap (λ (t : List Segment). s ∷ t) (side_by_side l)

-- WHAT IT COMES TO: 1 to 7, and once all segments are stored they stand at the front
pub taken : (head : Head) (p q : List ℕ) (l : List Segment) (a b lengths : List ℕ) {r : Checked} → r ≡ check_of head (ratios_of p q) l
    → TakenIn head p q l r (laid (length l) (map field_a l) a) (laid (length l) (map field_b l) b) (laid (length l) (map field_length l) lengths)
taken head p q l a b lengths e = record { answers = e; stands = λ _. rw (field_all field_a l a, field_all field_b l b, field_all field_length l lengths) (side_by_side l) }

-- and after a refusal nothing is said of the three lists
pub taken_refused : {head : Head} {p q : List ℕ} {l : List Segment} {a b lengths : List ℕ} {r : Checked} {x : Refusal} → r ≡ Err x → r ≡ check_of head (ratios_of p q) l → TakenIn head p q l r a b lengths
taken_refused {r = r} {x = x} f e = record { answers = e; stands = λ h. (let g : Err x ≡ Ok tt = sym f ∙ h in cc) }

-- TWO OUTCOMES that the contract allows have the same answer and, where that is sound, the same segments at the front
pub take_in_one : {head : Head} {p q : List ℕ} {l : List Segment} {r r₂ : Checked} {a b lengths a₂ b₂ lengths₂ : List ℕ} → TakenIn head p q l r a b lengths → TakenIn head p q l r₂ a₂ b₂ lengths₂
    → (r ≡ r₂) × (r ≡ Ok tt → segments_of (take (length l) a) (take (length l) b) (take (length l) lengths) ≡ segments_of (take (length l) a₂) (take (length l) b₂) (take (length l) lengths₂))
take_in_one t u = let same = t.answers ∙ sym u.answers in (same, λ h. t.stands h ∙ sym (u.stands (sym same ∙ h)))
