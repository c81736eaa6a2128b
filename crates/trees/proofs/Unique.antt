-- TWO OUTCOMES that the contract of the preparation allows are equal (`prepared_one`).
use mathlib.Core.Path.{◌≡◌, refl, sym, ap, ◌∙◌}
use mathlib.Core.List.{List}
use Rattle.std.specs.Prelude.{Result, Ok, Err}
use Prim.Native.Nat.{ℕ}
use native.Mathlib.Omega.{arith}
use Rattle.net.specs.Net.{Net}
use Rattle.net.specs.Refusals.{refusal}
use Rattle.net.specs.declared.Refusal.{Refusal}
use Rattle.trees.specs.Worked.{Prepares}

-- the answer and the four lists
pub record SamePrepared (r r₂ : Result ℕ Refusal) (d d₂ l l₂ s s₂ t t₂ : List ℕ) : Type 0 where
  pub answers : r ≡ r₂
  pub lengths : d ≡ d₂
  pub light : l ≡ l₂
  pub short : s ≡ s₂
  pub third : t ≡ t₂

pub prepared_one : (n : Net) (light third : List ℕ) (r r₂ : Result ℕ Refusal) {d d₂ l l₂ s s₂ t t₂ : List ℕ} → Prepares n light third r d l s t → Prepares n light third r₂ d₂ l₂ s₂ t₂
    → SamePrepared r r₂ d d₂ l l₂ s s₂ t t₂
prepared_one n light third (Ok k) (Ok m) p q =
    let x = p.joined refl in
    let y = q.joined refl in
    record {
      answers = ap Ok (x.laid_is ∙ sym y.laid_is);
      lengths = p.worked.lengths_are ∙ sym q.worked.lengths_are;
      light = x.trees.light_is ∙ sym y.trees.light_is;
      short = x.trees.short_is ∙ sym y.trees.short_is;
      third = x.trees.third_is ∙ sym y.trees.third_is;
    }
prepared_one n light third (Err e) (Err f) p q =
    let x = p.apart refl in
    let y = q.apart refl in
    let k : ◌≡◌ {A = Refusal} (refusal 9 x.0) (refusal 9 y.0) = cc (x.2.nine, y.2.nine) in
    record {
      answers = ap Err (x.1 ∙ k ∙ sym y.1);
      lengths = p.worked.lengths_are ∙ sym q.worked.lengths_are;
      light = x.2.light_kept ∙ sym y.2.light_kept;
      short = p.worked.tree_is ∙ sym q.worked.tree_is;
      third = x.2.third_kept ∙ sym y.2.third_kept;
    }
prepared_one n light third (Ok k) (Err f) p q =
    absurd (let z : ◌≡◌ {A = ℕ} 0 1 = cc ((p.joined refl).none_apart, (q.apart refl).2.nine) in omega arith)
prepared_one n light third (Err e) (Ok m) p q =
    absurd (let z : ◌≡◌ {A = ℕ} 0 1 = cc ((p.apart refl).2.nine, (q.joined refl).none_apart) in omega arith)
