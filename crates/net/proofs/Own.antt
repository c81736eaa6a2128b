-- The posts' own ratios: two lists side by side (`ratios_count`, `ratio_fields`), what a net keeps of them (`own_first`, `own_second`, `own_count`, `own_at`), and the ratio
-- of a post: the house ratio in the first form (`ratio_house`), its own in the second (`ratio_own`, by the lent lists `ratio_lent`). Where nothing from 1 to 7 refuses the net and no post's ratio is
-- missing, each is sound (`post_ratio_sound`), and of two posts or more one has the smallest (`smallest_of`). Rests on Smallest.
use mathlib.Core.Path.{◌≡◌, refl, sym, ap, ◌∙◌}
use mathlib.Core.Bool.{Bool, true, false, cond}
use mathlib.Core.List.{List, [], ◌∷◌}
use Prim.Native.Nat.{ℕ, zero, suc, ◌≤◌, ◌<◌, min}
use native.Mathlib.Omega.{arith}
use lib.Dec.{eqb}
use lib.ListN.{length, get_or}
use borrow.Author.Tests.{eqb-false, eq-eqb, ne_eqb}
use Rattle.net.specs.Words.{tab}
use Rattle.net.specs.Net.{Ratio, house, Net, no_ratio, ratio_at, own_of, net_with, ratios_of}
use Rattle.net.specs.Rules.{RatioSound, NetSound, AllOwn}
use Rattle.net.specs.Building.{ratio_in, ratio_of, p_of, q_of, SmallestOf}
use Rattle.net.specs.declared.Segment.{Segment}
use Rattle.net.specs.declared.Head.{Head}
use Rattle.net.specs.declared.Form.{Form}
use Rattle.net.specs.declared.Form.TheVariants.{First, Second}
use Rattle.net.proofs.Words.{length_tab, tab_at}
use Rattle.net.proofs.Smallest.{some_smallest}

-- TWO LISTS SIDE BY SIDE have as many ratios as the shorter has places
pub ratios_count : (ps qs : List ℕ) → length (ratios_of ps qs) ≡ min (length ps) (length qs)
ratios_count (x ∷ ps) (y ∷ qs) = omega (arith, ratios_count ps qs)
ratios_count (x ∷ ps) [] = omega arith
ratios_count [] qs = omega arith

-- and ratio v has what stands at v in each
pub ratio_fields : (ps qs : List ℕ) (v : ℕ) → v < length ps → v < length qs → record { p = get_or ps v 0; q = get_or qs v 0 } ≡ ratio_at (ratios_of ps qs) v
ratio_fields (x ∷ ps) (y ∷ qs) zero h k = refl
ratio_fields (x ∷ ps) (y ∷ qs) (suc v) h k = ratio_fields ps qs v (omega arith) (omega arith)
ratio_fields (x ∷ ps) [] v h k = absurd (omega arith)
ratio_fields [] qs v h k = absurd (omega arith)

-- WHAT A NET KEEPS of the ratios that are lent
module _ (h : Head) (l : List Ratio) where
  -- what it keeps of that of post v in the second form
  abbrev kept : ℕ → Ratio
  kept v = cond (eqb v h.source) no_ratio (ratio_at l v)

  pub own_first : h.form ≡ First → own_of h l ≡ []
  unfolding own_of
  own_first e = rw e

  pub own_second : h.form ≡ Second → own_of h l ≡ tab (min h.posts (length l)) kept
  unfolding own_of
  own_second e = rw e

  pub own_count : h.form ≡ Second → length (own_of h l) ≡ min h.posts (length l)
  own_count e = ap length (own_second e) ∙ length_tab kept (min h.posts (length l))

  pub own_at : h.form ≡ Second → (v : ℕ) → v < min h.posts (length l) → (v ≡ h.source → ⊥) → ratio_at (own_of h l) v ≡ ratio_at l v
  own_at e v k ne =
      let b : eqb v h.source ≡ false = ne_eqb v h.source ne in
      ap (λ (o : List Ratio). ratio_at o v) (own_second e) ∙ tab_at kept (min h.posts (length l)) v no_ratio k ∙ ap (λ (c : Bool). cond c no_ratio (ratio_at l v)) b

  -- no post's ratio is missing where there are as many as posts
  pub all_own : (segs : List Segment) → h.posts ≤ length l → AllOwn (net_with h l segs)
  all_own segs k e = omega (arith, own_count e)

-- THE RATIO OF A POST
module _ (n : Net) where
  pub ratio_house : n.head.form ≡ First → (v : ℕ) → ratio_of n v ≡ house n.head
  unfolding ratio_of
  ratio_house e v = rw e

  pub ratio_own : n.head.form ≡ Second → (v : ℕ) → (v ≡ n.head.source → ⊥) → ratio_of n v ≡ ratio_at n.own v
  unfolding ratio_of
  ratio_own e v ne = rw (e, ne_eqb v n.head.source ne)

  pub ratio_source : ratio_of n n.head.source ≡ house n.head
  unfolding ratio_of
  ratio_source = by_form n.head.form
    where
      by_form : (f : Form) → ratio_in f n n.head.source ≡ house n.head
      by_form First = refl
      by_form Second = rw (eq-eqb n.head.source n.head.source refl)

  module _ (ok : ℕ → Bool) (m : ℕ) (sound : NetSound ok m n) (all : AllOwn n) where
    house_sound : RatioSound (house n.head)
    house_sound = let h = sound.head_sound in record { some_q = h.some_q; small_p = h.small_p; small_q = h.small_q }

    pub post_ratio_sound : (v : ℕ) → v < n.head.posts → RatioSound (ratio_of n v)
    unfolding ratio_of
    post_ratio_sound v h = by_form n.head.form refl
      where
        own_or_house : (b : Bool) → eqb v n.head.source ≡ b → v < length n.own → RatioSound (cond b (house n.head) (ratio_at n.own v))
        own_or_house true e k = house_sound
        own_or_house false e k = sound.ratios_sound v k (eqb-false v n.head.source e)

        by_form : (f : Form) → n.head.form ≡ f → RatioSound (ratio_in f n v)
        by_form First e = house_sound
        by_form Second e = own_or_house (eqb v n.head.source) refl (omega (arith, all e))

    -- two posts or more have a smallest ratio
    pub smallest_of : 2 ≤ n.head.posts → (v : ℕ) × SmallestOf n v
    smallest_of two = some_smallest (p_of n) (q_of n) n.head.source n.head.posts two (λ u h ne. (post_ratio_sound u h).some_q)

-- in the second form it is what stands in the lent lists
pub ratio_lent : (h : Head) (ps qs : List ℕ) (segs : List Segment) → h.form ≡ Second → (v : ℕ) → v < h.posts → v < length ps → v < length qs → (v ≡ h.source → ⊥)
    → ratio_of (net_with h (ratios_of ps qs) segs) v ≡ record { p = get_or ps v 0; q = get_or qs v 0 }
ratio_lent h ps qs segs e v i j k ne =
    ratio_own (net_with h (ratios_of ps qs) segs) e v ne ∙ own_at h (ratios_of ps qs) e v (omega (arith, ratios_count ps qs)) ne ∙ sym (ratio_fields ps qs v j k)
