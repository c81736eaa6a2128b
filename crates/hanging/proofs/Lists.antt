-- Laws of lists: a value behind a list's end, a list after a store, and a list whose first part is made anew.
-- Relies on nothing of ours but `net`'s words.
use mathlib.Core.Path.{◌≡◌, sym, ap, ◌∙◌}
use mathlib.Core.List.{List, ◌++◌}
use mathlib.Core.Logic.{◌⊎◌, inl, inr, ⊎_elim}
use Prim.Native.Nat.{ℕ, ◌+◌, ◌-◌, ◌<◌, ◌≤◌}
use native.Mathlib.Omega.{arith}
use native.Mathlib.Nat.{eq-or-lt_of_le}
use native.Mathlib.Decide.{ℕ_discrete, dec_lt}
use lib.ListN.{length, get_or, set, take, drop, length-append, length-drop, get_or-append}
use lib.Seq.{get_or-set_same, get_or-set_other, ext_get_or, get_or-take, get_or-drop}
use Rattle.std.proofs.lemmas.List.{get_or-append_right}
use Rattle.net.proofs.Segments.{get_d_any}

-- a number is another or not; below another or not; the last below i + 1 or an earlier one
either : {A : Type 0} → Dec A → A ⊎ (A → ⊥)
either (yes p) = inl p
either (no p) = inr p

pub same? : (x y : ℕ) → (x ≡ y) ⊎ (x ≡ y → ⊥)
same? x y = either (ℕ_discrete x y)

pub below? : (x y : ℕ) → (x < y) ⊎ (y ≤ x)
below? x y = ⊎_elim inl (λ n. inr (omega arith)) (either (dec_lt x y))

pub last? : (j i : ℕ) → j < i + 1 → (j ≡ i) ⊎ (j < i)
last? j i h = eq-or-lt_of_le (omega arith)

-- what the first n of a list say
pub taken_at : (n : ℕ) (l : List ℕ) (v d : ℕ) → v < n → n ≤ length l → get_or l v 0 ≡ get_or (take n l) v d
taken_at n l v d h k = get_d_any l v 0 d (omega arith) ∙ sym (get_or-take n l v d h)

-- what stands at j after a store at i
pub stored : {A : Type 0} (l : List A) (i j : ℕ) (x d : A) → i < length l → ((j ≡ i) × (get_or (set l i x) j d ≡ x)) ⊎ ((j ≡ i → ⊥) × (get_or (set l i x) j d ≡ get_or l j d))
stored l i j x d h = ⊎_elim (λ e. inl (e, rw e (get_or-set_same l i x d h))) (λ ne. inr (ne, get_or-set_other l i j x d ne)) (same? j i)

-- what stands behind the first n entries, where those were made anew
pub behind : (n : ℕ) (g y : List ℕ) → length g ≡ n → (v : ℕ) → n ≤ v → get_or (g ++ drop n y) v 0 ≡ get_or y v 0
behind n g y k v p =
    let z : n + (v - n) ≡ v = omega arith in
    get_or-append_right g (drop n y) n v 0 k p ∙ get_or-drop n y (v - n) 0 ∙ ap (λ (j : ℕ). get_or y j 0) z

-- a list whose first n entries are those of g, and whose others are those of y
pub front_is : (n : ℕ) (g x y : List ℕ) → length x ≡ length y → length g ≡ n → n ≤ length y
    → ((v : ℕ) → v < n → get_or x v 0 ≡ get_or g v 0) → ((v : ℕ) → n ≤ v → get_or x v 0 ≡ get_or y v 0) → x ≡ g ++ drop n y
front_is n g x y e k h f r =
    ext_get_or 0 x (g ++ drop n y) (omega (arith, length-append g (drop n y), length-drop n y))
    (λ v b. ⊎_elim (λ p. f v p ∙ sym (get_or-append g (drop n y) 0 v (omega arith))) (λ p. r v p ∙ sym (behind n g y k v p)) (below? v n))

-- and what its first entries are
pub front_at : (n : ℕ) (g r l : List ℕ) (d : ℕ) → l ≡ g ++ r → length g ≡ n → (v : ℕ) → v < n → get_or l v 0 ≡ get_or g v d
front_at n g r l d e k v h = ap (λ (x : List ℕ). get_or x v 0) e ∙ get_or-append g r 0 v (omega arith) ∙ get_d_any g v 0 d (omega arith)
