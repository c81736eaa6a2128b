-- What a margin says: "below zero exactly when the post breaks the limit" (`margin_below`), zero exactly at the limit (`margin_at_limit`), and 0 for a post
-- whose least length and path are both 0, as the source's are (`margin_zero`).
use mathlib.Core.Path.{◌≡◌, refl, sym, ap, ◌∙◌}
use mathlib.Core.Bool.{Bool, true, false}
use Prim.Native.Nat.{ℕ, suc, ◌+◌, ◌-◌, ◌*◌, ◌≤◌}
use native.Mathlib.Omega.{arith}
use native.Mathlib.Nat.{sub_self, mul-zero}
use lib.Dec.{ltb}
use lib.IntN.{pos, sub_ℕ, nat_abs, pos-ne-negsuc}
use lib.Signed.{lt_z}
use borrow.Author.Tests.{le-ltb, ltb-false}
use Rattle.net.specs.Trees.{the_margin_by}

difference_below : (x y : ℕ) → lt_z (sub_ℕ x y) (pos 0) ≡ ltb x y
difference_below x y = go (ltb x y) refl
  where
    go : (t : Bool) → ltb x y ≡ t → lt_z (sub_ℕ x y) (pos 0) ≡ ltb x y
    go true e = rw e
    go false e = rw e (le-ltb (x - y) 0 (omega arith))

difference_zero : (x y : ℕ) (t : Bool) → ltb x y ≡ t → sub_ℕ x y ≡ pos 0 → x ≡ y
difference_zero x y true h z = absurd (pos-ne-negsuc 0 (y - suc x) (sym (rw h at z)))
difference_zero x y false h z = let k : x - y ≡ 0 = ap nat_abs (rw h at z) in omega (arith, ltb-false x y h)

module _ (p q D path : ℕ) where
  -- below zero exactly where q × path is greater than (p + q) × D
  pub margin_below : lt_z (the_margin_by p q D path) (pos 0) ≡ ltb ((p + q) * D) (q * path)
  unfolding the_margin_by
  margin_below = difference_below ((p + q) * D) (q * path)

  -- zero exactly where the two are equal
  pub margin_at_limit : the_margin_by p q D path ≡ pos 0 → (p + q) * D ≡ q * path
  unfolding the_margin_by
  margin_at_limit e = difference_zero ((p + q) * D) (q * path) (ltb ((p + q) * D) (q * path)) refl e

  pub at_limit_margin : (p + q) * D ≡ q * path → the_margin_by p q D path ≡ pos 0
  unfolding the_margin_by
  at_limit_margin e = rw (e, le-ltb (q * path) (q * path) (omega arith), sub_self)

  -- within the limit it is not below zero
  pub margin_within : q * path ≤ (p + q) * D → lt_z (the_margin_by p q D path) (pos 0) ≡ false
  margin_within h = margin_below ∙ le-ltb ((p + q) * D) (q * path) h

pub margin_zero : (p q : ℕ) → the_margin_by p q 0 0 ≡ pos 0
margin_zero p q = at_limit_margin p q 0 0 (mul-zero (p + q) ∙ sym (mul-zero q))
