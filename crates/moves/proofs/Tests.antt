-- What the tests of a move tell: of two forms (`same_form_law`), of a post's own ratio against the house's (`other_told`). And that the test of a post looks alike at the ratios that are lent and at
-- what a net keeps of them (`other_kept`). Relies on net's `Tells`.
use mathlib.Core.Path.{◌≡◌, refl, sym, ap, ◌∙◌}
use mathlib.Core.Bool.{Bool, true, false, not, ◌&&◌, ◌||◌}
use mathlib.Core.List.{List}
use Prim.Native.Nat.{ℕ, ◌+◌, ◌<◌, min}
use native.Mathlib.Omega.{arith}
use native.Mathlib.Decide.{dec_lt}
use lib.Dec.{eqb}
use lib.ListN.{length, get_or}
use borrow.Author.Tests.{eqb-true, eqb-false, eq-eqb, ne_eqb}
use Rattle.net.specs.Net.{Ratio, house, ratio_at, ratios_of, own_of}
use denote.Enum.Bare.{sameb}
use Rattle.net.specs.contracts.Form.{the_type}
use Rattle.net.specs.declared.Form.{Form}
use Rattle.net.specs.declared.Form.TheVariants.{First, Second}
use Rattle.net.specs.declared.Head.{Head}
use Rattle.net.proofs.Own.{ratio_fields, own_at}
use Rattle.net.proofs.Tables.{Tells}
use Rattle.moves.specs.Moves.{the_same_form, the_other_ratio, the_other_at, NoneOther}

first_second : First ≡ Second → ⊥
first_second e = let z : ◌≡◌ {A = ℕ} 0 1 = cc in omega arith

pub same_form_law : (f g : Form) → Tells (f ≡ g) (f ≡ g → ⊥) (the_same_form f g)
same_form_law f g = record { passes = passes f g; fails = fails f g; not_both = λ p q. q p }
  where
    passes : (f g : Form) → the_same_form f g ≡ true → f ≡ g
    passes First First e = refl
    passes Second Second e = refl
    passes First Second e = let z : ◌≡◌ {A = ℕ} 0 1 = cc in absurd (omega arith)
    passes Second First e = let z : ◌≡◌ {A = ℕ} 0 1 = cc in absurd (omega arith)

    fails : (f g : Form) → the_same_form f g ≡ false → f ≡ g → ⊥
    fails First First e = let z : ◌≡◌ {A = ℕ} 0 1 = cc in absurd (omega arith)
    fails Second Second e = let z : ◌≡◌ {A = ℕ} 0 1 = cc in absurd (omega arith)
    fails First Second e = first_second
    fails Second First e = λ x. first_second (sym x)

-- the code's own test of two forms
pub forms_tested : (f g : Form) {r : Bool} → r ≡ sameb the_type f g → r ≡ the_same_form f g
forms_tested First First e = e
forms_tested First Second e = e
forms_tested Second First e = e
forms_tested Second Second e = e

-- A RATIO is another exactly where it isn't the house ratio
module _ (h : Head) (r : Ratio) where
  pub is_house : the_other_ratio h r ≡ false → r ≡ house h
  is_house e = go (eqb r.p h.p) (eqb r.q h.q) refl refl e
    where
      go : (a b : Bool) → eqb r.p h.p ≡ a → eqb r.q h.q ≡ b → not a || not b ≡ false → r ≡ house h
      go true true x y e = let u = eqb-true r.p h.p x in let w = eqb-true r.q h.q y in λ i. record { p = u i; q = w i }
      go true false x y e = let z : ◌≡◌ {A = ℕ} 0 1 = cc in absurd (omega arith)
      go false b x y e = let z : ◌≡◌ {A = ℕ} 0 1 = cc in absurd (omega arith)

  pub house_is : r ≡ house h → the_other_ratio h r ≡ false
  house_is e = rw (eq-eqb r.p h.p (ap (λ (x : Ratio). x.p) e), eq-eqb r.q h.q (ap (λ (x : Ratio). x.q) e))

-- A POST
module _ (h : Head) (own : List Ratio) (v : ℕ) where
  -- it is the source, or its own ratio is the house's
  abbrev pub AsHouse : Type 0
  AsHouse = (v ≡ h.source → ⊥) → ratio_at own v ≡ house h

  -- it isn't, and its own ratio is another
  abbrev pub Another : Type 0
  Another = (v ≡ h.source → ⊥) × (ratio_at own v ≡ house h → ⊥)

  pub other_told : Tells Another AsHouse (the_other_at h own v)
  other_told = record { passes = go (eqb v h.source) refl; fails = to_house (eqb v h.source) refl; not_both = λ p q. p.1 (q p.0) }
    where
      go : (b : Bool) → eqb v h.source ≡ b → not b && the_other_ratio h (ratio_at own v) ≡ true → Another
      go true x e = let z : ◌≡◌ {A = ℕ} 0 1 = cc in absurd (omega arith)
      go false x e = (eqb-false v h.source x, λ k. let w = house_is h (ratio_at own v) k in let z : ◌≡◌ {A = ℕ} 0 1 = cc in absurd (omega arith))

      to_house : (b : Bool) → eqb v h.source ≡ b → not b && the_other_ratio h (ratio_at own v) ≡ false → AsHouse
      to_house true x e = λ ne. absurd (ne (eqb-true v h.source x))
      to_house false x e = λ ne. is_house h (ratio_at own v) e

-- what a net of the second form keeps of the ratios that are lent is tested alike
pub other_kept : (h : Head) (l : List Ratio) → h.form ≡ Second → (v : ℕ) → v < min h.posts (length l) → the_other_at h (own_of h l) v ≡ the_other_at h l v
other_kept h l e v k = go (eqb v h.source) refl
  where
    go : (b : Bool) → eqb v h.source ≡ b → not b && the_other_ratio h (ratio_at (own_of h l) v) ≡ not b && the_other_ratio h (ratio_at l v)
    go true x = refl
    go false x = ap (the_other_ratio h) (own_at h l e v k (eqb-false v h.source x))

-- the test of a post, as the code has it: the source, and a post by its two numbers
pub source_is : (h : Head) (own : List Ratio) (v : ℕ) → v ≡ h.source → false ≡ the_other_at h own v
source_is h own v e = rw (eq-eqb v h.source e)

pub post_is : (h : Head) (p q : List ℕ) (v : ℕ) {r : Bool} → (v ≡ h.source → ⊥) → v < length p → v < length q → r ≡ the_other_ratio h (record { p = get_or p v 0; q = get_or q v 0 }) → r ≡ the_other_at h (ratios_of p q) v
post_is h p q v ne i j e = e ∙ ap (the_other_ratio h) (ratio_fields p q v i j) ∙ rw (ne_eqb v h.source ne)

-- none of the posts that were passed, and not this one either
pub one_more : (h : Head) (own : List Ratio) {k : ℕ} → NoneOther h own k → the_other_at h own k ≡ false → NoneOther h own (k + 1)
one_more h own {k} b e = λ v l. elim (dec_lt v k) [ yes i ↦ b v i | no i ↦ let z : v ≡ k = omega arith in rw z e ]
