-- How many posts a part has: two parts joined have as many as both (`members_joined`), and a post whose label changes is afterwards in a part of at least
-- twice as many posts (`renamed_doubles`). Rests on Renaming and `net`'s sums.
use mathlib.Core.Path.{◌≡◌, refl, ap, ◌∙◌}
use mathlib.Core.Bool.{Bool, true, false, ◌||◌}
use mathlib.Core.List.{List}
use mathlib.Core.Logic.{◌⊎◌, inl, inr}
use Prim.Native.Nat.{ℕ, ◌+◌, ◌<◌, ◌≤◌}
use native.Mathlib.Omega.{arith}
use lib.ListN.{length, get_or}
use lib.Dec.{eqb}
use borrow.Author.Tests.{eq-eqb, eqb-true}
use Rattle.net.specs.Words.{counted}
use Rattle.net.proofs.Words.{clash, counted_le}
use Rattle.net.proofs.Sums.{sum_le, sum_add, sum_ones}
use Rattle.lightest.specs.Parts.{share, JoinedParts, members, SmallerRenamed}
use Rattle.lightest.proofs.Renaming.{eqb_sym, joined_swap}

-- a post of u's part is in no other
pub share_other : (labels : List ℕ) (x u v : ℕ) → share labels x u ≡ true → share labels u v ≡ false → share labels x v ≡ false
share_other labels x u v e f = rw (eqb-true (get_or labels x 0) (get_or labels u 0) e) f

-- u's part and v's are two, whichever is named first
pub apart_swap : (labels : List ℕ) (u v : ℕ) → share labels u v ≡ false → share labels v u ≡ false
apart_swap labels u v e = eqb_sym (get_or labels v 0) (get_or labels u 0) ∙ e

-- COUNTS OF PARTS
-- only the sharing counts
members_by : (old new : List ℕ) (x z : ℕ) → length new ≡ length old → ((y : ℕ) → y < length old → share new x y ≡ share old z y) → members new x ≡ members old z
unfolding members
members_by old new x z e f = rw e (omega (
  arith,
  sum_le (length old) (λ y. counted (share new x y) 1) (λ y. counted (share old z y) 1) (λ y h. omega (arith, ap (λ t. counted t 1) (f y h))),
  sum_le (length old) (λ y. counted (share old z y) 1) (λ y. counted (share new x y) 1) (λ y h. omega (arith, ap (λ t. counted t 1) (f y h))),
))

-- posts of one part have as many
pub members_share : (labels : List ℕ) (x z : ℕ) → share labels x z ≡ true → members labels x ≡ members labels z
members_share labels x z e = members_by labels labels x z refl (λ y h. ap (λ p. eqb p (get_or labels y 0)) (eqb-true (get_or labels x 0) (get_or labels z 0) e))

-- no part has more than there are
pub members_le : (labels : List ℕ) (x : ℕ) → members labels x ≤ length labels
unfolding members
members_le labels x = omega (
  arith,
  sum_le (length labels) (λ y. counted (share labels x y) 1) (λ _. 1) (λ y h. counted_le (share labels x y) 1),
  sum_ones (length labels),
)

-- TWO PARTS JOINED
module _ {old new : List ℕ} {u v : ℕ} (j : JoinedParts old u v new) (apart : share old u v ≡ false) where
  -- a post of u's part shares with its own as before, and with v's
  pub share_more : (x : ℕ) → x < length old → share old x u ≡ true → (y : ℕ) → y < length old
      → counted (share new x y) 1 ≡ counted (share old x y) 1 + counted (share old v y) 1
  share_more x hx e y hy =
      ap (λ t. counted t 1) (j.shares x y hx hy)
      ∙ rw (e, same, eqb_sym (get_or old v 0) (get_or old y 0)) (go (share old x y) (share old y v) (λ p q. clash (eq-eqb (get_or old x 0) (get_or old v 0) (eqb-true (get_or old x 0) (get_or old y 0) p ∙ eqb-true (get_or old y 0) (get_or old v 0) q)) same))
    where
      same : share old x v ≡ false
      same = share_other old x u v e apart

      go : (s t : Bool) → (s ≡ true → t ≡ true → ⊥) → counted (s || (t || false)) 1 ≡ counted s 1 + counted t 1
      go true true f = absurd (f refl refl)
      go true false f = refl
      go false true f = refl
      go false false f = refl

  -- a post of neither shares as before
  pub share_as : (x : ℕ) → x < length old → share old x u ≡ false → share old x v ≡ false → (y : ℕ) → y < length old → share new x y ≡ share old x y
  share_as x hx e f y hy = j.shares x y hx hy ∙ rw (e, f) (go (share old x y))
    where
      go : (s : Bool) → s || (false || false) ≡ s
      go true = refl
      go false = refl

  -- so the counts add up
  pub members_joined : (x : ℕ) → x < length old → share old x u ≡ true → members new x ≡ members old x + members old v
  unfolding members
  members_joined x hx e = rw j.one_each (omega (
    arith,
    sum_le (length old) (λ y. counted (share new x y) 1) (λ y. counted (share old x y) 1 + counted (share old v y) 1) (λ y h. omega (arith, share_more x hx e y h)),
    sum_le (length old) (λ y. counted (share old x y) 1 + counted (share old v y) 1) (λ y. counted (share new x y) 1) (λ y h. omega (arith, share_more x hx e y h)),
    sum_add (length old) (λ y. counted (share old x y) 1) (λ y. counted (share old v y) 1),
  ))

  pub members_as : (x : ℕ) → x < length old → share old x u ≡ false → share old x v ≡ false → members new x ≡ members old x
  members_as x hx e f = members_by old new x x j.one_each (share_as x hx e f)

-- A POST WHOSE LABEL CHANGES is afterwards in a part of at least twice as many posts
pub renamed_doubles : {old new : List ℕ} {u v : ℕ} → JoinedParts old u v new → SmallerRenamed old u v new → share old u v ≡ false
    → (x : ℕ) → x < length old → (get_or new x 0 ≡ get_or old x 0 → ⊥) → members old x + members old x ≤ members new x
renamed_doubles {old} {new} {u} {v} j s apart x hx ne = go (s.changed x hx ne)
  where
    go : ((share old x u ≡ true) × (members old u ≤ members old v)) ⊎ ((share old x v ≡ true) × (members old v ≤ members old u)) → members old x + members old x ≤ members new x
    go (inl (e, le)) = omega (arith, members_joined j apart x hx e, members_share old x u e)
    go (inr (e, le)) = omega (arith, members_joined (joined_swap j) (apart_swap old u v apart) x hx e, members_share old x v e)
