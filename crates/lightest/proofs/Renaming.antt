-- Renaming labels: one label becomes another everywhere, and the two parts are one (`renamed_joins`). Joining goes both ways (`joined_swap`),
-- and which posts then share a part is determined (`joined_unique`). Rests on nothing of ours but the definitions.
use mathlib.Core.Path.{◌≡◌, refl, sym, ap, ◌∙◌}
use mathlib.Core.Bool.{Bool, true, false, ◌&&◌, ◌||◌, cond}
use mathlib.Core.List.{List}
use Prim.Native.Nat.{ℕ, ◌<◌}
use native.Mathlib.Omega.{arith}
use lib.ListN.{length, get_or, length-map}
use lib.Dec.{eqb}
use borrow.Author.Tests.{eq-eqb, ne_eqb, eqb-true, eqb-false}
use Rattle.std.proofs.lemmas.List.{get_or-map}
use Rattle.lightest.specs.Parts.{share, renamed, JoinedParts, renamed_to}

-- what renaming does to one label
pub renamed_same : (from to x : ℕ) → x ≡ from → renamed from to x ≡ to
unfolding renamed
renamed_same from to x h = rw (eq-eqb _ _ h)

pub renamed_other : (from to x : ℕ) → (x ≡ from → ⊥) → renamed from to x ≡ x
unfolding renamed
renamed_other from to x h = rw (ne_eqb _ _ h)

-- THE TWO PARTS ARE ONE
pub eqb_sym : (x y : ℕ) → eqb x y ≡ eqb y x
eqb_sym x y = go (eqb x y) refl
  where
    go : (t : Bool) → eqb x y ≡ t → t ≡ eqb y x
    go true e = sym (eq-eqb y x (sym (eqb-true x y e)))
    go false e = sym (ne_eqb y x (λ q. eqb-false x y e (sym q)))

-- of two labels p and q, after v has become u: by whether each was v
share_renamed : (u v p q : ℕ) → eqb (renamed v u p) (renamed v u q) ≡ (eqb p q || ((eqb p u && eqb q v) || (eqb p v && eqb q u)))
unfolding renamed
share_renamed u v p q = go (eqb p v) refl (eqb q v) refl
  where
    -- both were v, one was, or none
    go : (s : Bool) → eqb p v ≡ s → (t : Bool) → eqb q v ≡ t → eqb (cond s u p) (cond t u q) ≡ (eqb p q || ((eqb p u && t) || (s && eqb q u)))
    go true e true f = rw (eq-eqb p q (eqb-true p v e ∙ sym (eqb-true q v f)), eq-eqb u u refl)
    go true e false f = rw (ne_eqb p q (λ z. eqb-false q v f (sym z ∙ eqb-true p v e))) (go₁ (eqb p u) (eqb_sym u q))
      where
        go₁ : (b : Bool) → eqb u q ≡ eqb q u → eqb u q ≡ ((b && false) || eqb q u)
        go₁ true z = z
        go₁ false z = z
    go false e true f = rw (ne_eqb p q (λ z. eqb-false p v e (z ∙ eqb-true q v f))) (go₂ (eqb p u))
      where
        go₂ : (b : Bool) → b ≡ ((b && true) || false)
        go₂ true = refl
        go₂ false = refl
    go false e false f = go₃ (eqb p q) (eqb p u)
      where
        go₃ : (a b : Bool) → a ≡ (a || ((b && false) || false))
        go₃ true b = refl
        go₃ false true = refl
        go₃ false false = refl

-- no label gets above those there were
renamed_below : (k u v p : ℕ) → u < k → p < k → renamed v u p < k
unfolding renamed
renamed_below k u v p h g = go (eqb p v)
  where
    go : (t : Bool) → cond t u p < k
    go true = h
    go false = g

-- v's label becomes u's: the parts of u and v are one
pub renamed_joins : (old : List ℕ) (u v : ℕ) (new : List ℕ) → u < length old → v < length old
    → new ≡ renamed_to old u v → JoinedParts old u v new
renamed_joins old u v new hu hv e =
    record {
      one_each = size;
      low = λ k f x h. let g : x < length old = omega (arith, size) in rw (at x g) (renamed_below k (get_or old u 0) (get_or old v 0) (get_or old x 0) (f u hu) (f x g));
      shares = λ x y hx hy. rw (at x hx, at y hy) (share_renamed (get_or old u 0) (get_or old v 0) (get_or old x 0) (get_or old y 0));
    }
  where
    size : length new ≡ length old
    size = ap length e ∙ length-map old (renamed (get_or old v 0) (get_or old u 0))

    at : (x : ℕ) → x < length old → get_or new x 0 ≡ renamed (get_or old v 0) (get_or old u 0) (get_or old x 0)
    at x h = rw e (get_or-map (renamed (get_or old v 0) (get_or old u 0)) old x 0 0 h)

-- it is one thing to join u's part to v's and v's to u's
pub joined_swap : {old : List ℕ} {u v : ℕ} {new : List ℕ} → JoinedParts old v u new → JoinedParts old u v new
joined_swap {old} {u} {v} {new} j =
    record {
      one_each = j.one_each;
      low = j.low;
      shares = λ x y hx hy. j.shares x y hx hy
          ∙ ap (λ t. share old x y || t) (or_comm (share old x v && share old y u) (share old x u && share old y v));
    }
  where
    or_comm : (s t : Bool) → s || t ≡ t || s
    or_comm true true = refl
    or_comm true false = refl
    or_comm false true = refl
    or_comm false false = refl

-- two ways of joining leave the same posts sharing a part
pub joined_unique : {old : List ℕ} {u v : ℕ} {new other : List ℕ} → JoinedParts old u v new → JoinedParts old u v other
    → (x y : ℕ) → x < length old → y < length old → share new x y ≡ share other x y
joined_unique p q x y hx hy = p.shares x y hx hy ∙ sym (q.shares x y hx hy)
