-- Filling a list: what stands in it after `list[..n].fill(e)`, and that what `Filled` says has one outcome. Rests on
-- `Lists`.
use mathlib.Core.Path.{◌≡◌, sym, ap, ◌∙◌}
use mathlib.Core.List.{List, ◌++◌}
use mathlib.Core.Logic.{⊎_elim}
use Prim.Native.Nat.{ℕ, ◌≤◌}
use native.Mathlib.Omega.{arith}
use lib.ListN.{length, get_or, take, drop, replicate, length-append, length-drop, get_or-append}
use lib.Seq.{ext_get_or, length-take-le}
use Rattle.std.proofs.lemmas.List.{length-replicate, get_or-replicate}
use Rattle.hanging.specs.Lists.{note, Filled}
use Rattle.hanging.proofs.Lists.{below?, behind}

-- the list after `l₀[..n].fill(e)`, whose first part became f
pub filled_many : {n : ℕ} (e : ℕ) {f : List ℕ} (l₀ : List ℕ) → n ≤ length l₀ → f ≡ replicate (length (take n l₀)) e → length (f ++ drop n l₀) ≡ length l₀
filled_many {n} e {f} l₀ h is =
    omega (arith, length-append f (drop n l₀), length-drop n l₀, ap length is, length-replicate (length (take n l₀)) e, length-take-le n l₀ h)

pub filled_front : {n : ℕ} (e : ℕ) {f : List ℕ} (l₀ : List ℕ) → n ≤ length l₀ → f ≡ replicate (length (take n l₀)) e → Filled n e (note l₀) (note (f ++ drop n l₀))
filled_front {n} e {f} l₀ h is =
    let k : length f ≡ n = omega (arith, ap length is, length-replicate (length (take n l₀)) e, length-take-le n l₀ h) in
    let g : f ≡ replicate n e = rw (← length-take-le n l₀ h) is in
    record {
      gone = λ v p. get_or-append f (drop n l₀) 0 v (omega arith) ∙ ap (λ (l : List ℕ). get_or l v 0) g ∙ get_or-replicate n v e 0 p;
      rest = λ v p. behind n f l₀ k v p;
    }

-- two lists, equally long, that were filled alike are equal
pub filled_one : {n e : ℕ} {before : ℕ → ℕ} {l l' : List ℕ} → length l ≡ length l' → Filled n e before (note l) → Filled n e before (note l') → l ≡ l'
filled_one {n} {e} {before} {l} {l'} same f g = ext_get_or 0 l l' same (λ v _. ⊎_elim (λ h. f.gone v h ∙ sym (g.gone v h)) (λ h. f.rest v h ∙ sym (g.rest v h)) (below? v n))
