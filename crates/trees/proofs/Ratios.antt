-- The ratio that the code finds for each post (`number_first`, `number_source`, `number_own`) is the net's (`number_p`, `number_q`), and it stands in the list it is put into
-- (`numbers_at`). Where there is one for each post, 8 does not hold of them (`room_none`). A net that nothing from 1 to 7 refuses is refused by none of them without its own
-- ratios (`ready_plain`), and has the same lightest tree (`plain_lightest`). Rests on net's laws of own ratios; building and margin cite it.
use mathlib.Core.Path.{◌≡◌, refl, sym, ap, ◌∙◌}
use mathlib.Core.Bool.{Bool, true, false, cond}
use mathlib.Core.List.{List, []}
use mathlib.Core.Option.{none}
use Prim.Native.Nat.{ℕ, ◌≤◌, ◌<◌}
use native.Mathlib.Omega.{arith}
use lib.Dec.{eqb, ltb}
use lib.ListN.{length, get_or}
use borrow.Author.Tests.{eqb-false, eq-eqb, ne_eqb, le-ltb}
use Rattle.net.specs.Net.{Ratio, house, ratio_at, own_of, net_with, ratios_of, every}
use Rattle.net.specs.Refusals.{room_of_ratios}
use Rattle.net.specs.Building.{ratio_in, ratio_of, p_of, q_of, lightest_of}
use Rattle.net.specs.Ready.{net_at, Ready}
use Rattle.net.specs.declared.Form.{Form}
use Rattle.net.specs.declared.Form.TheVariants.{First, Second}
use Rattle.net.specs.declared.Head.{Head}
use Rattle.net.specs.declared.Segment.{Segment}
use Rattle.net.proofs.Tables.{FirstOf, below, end}
use Rattle.net.proofs.Words.{length_tab, tab_at}
use Rattle.net.proofs.Own.{ratios_count, ratio_fields, own_first, own_count, own_at}
use Rattle.trees.specs.Ratios.{number_in, the_number_for, numbers_for, Plain}

-- what the code answers for a post
module _ (h : Head) (x : ℕ) (own : List ℕ) (v : ℕ) where
  pub number_first : h.form ≡ First → x ≡ the_number_for h x own v
  unfolding the_number_for
  number_first e = rw e

  pub number_source : h.form ≡ Second → v ≡ h.source → x ≡ the_number_for h x own v
  unfolding the_number_for
  number_source e k = rw (e, eq-eqb v h.source k)

  pub number_own : h.form ≡ Second → (v ≡ h.source → ⊥) → get_or own v 0 ≡ the_number_for h x own v
  unfolding the_number_for
  number_own e k = rw (e, ne_eqb v h.source k)

-- where there is a ratio for each post
module _ (head : Head) (p q : List ℕ) (segs : List Segment) (enough : head.posts ≤ length (ratios_of p q)) (v : ℕ) (h : v < head.posts) where
  own_ratio : head.form ≡ Second → eqb v head.source ≡ false → record { p = get_or p v 0; q = get_or q v 0 } ≡ ratio_at (own_of head (ratios_of p q)) v
  own_ratio e k =
      let c = ratios_count p q in
      ratio_fields p q v (omega arith) (omega arith) ∙ sym (own_at head (ratios_of p q) e v (omega arith) (eqb-false v head.source k))

  -- one of the two numbers of a ratio, by which l lists the own ratios
  module _ (part : Ratio → ℕ) (l : List ℕ) (listed : get_or l v 0 ≡ part (record { p = get_or p v 0; q = get_or q v 0 })) where
    by_source : head.form ≡ Second → (b : Bool) → eqb v head.source ≡ b → cond b (part (house head)) (get_or l v 0) ≡ part (cond b (house head) (ratio_at (own_of head (ratios_of p q)) v))
    by_source e true k = refl
    by_source e false k = listed ∙ ap part (own_ratio e k)

    by_form : (f : Form) → head.form ≡ f → number_in f head.source (part (house head)) l v ≡ part (ratio_in f (net_with head (ratios_of p q) segs) v)
    by_form First e = refl
    by_form Second e = by_source e (eqb v head.source) refl

    number_is : the_number_for head (part (house head)) l v ≡ part (ratio_of (net_with head (ratios_of p q) segs) v)
    unfolding the_number_for ratio_of
    number_is = by_form head.form refl

  -- the code's number is the net's
  pub number_p : the_number_for head head.p p v ≡ p_of (net_with head (ratios_of p q) segs) v
  number_p = number_is (λ (r : Ratio). r.p) p refl

  pub number_q : the_number_for head head.q q v ≡ q_of (net_with head (ratios_of p q) segs) v
  number_q = number_is (λ (r : Ratio). r.q) q refl

-- a list of the numbers
module _ (head : Head) (x : ℕ) (own : List ℕ) {list : List ℕ} (is : list ≡ numbers_for head x own) where
  pub numbers_at : (v : ℕ) → v < head.posts → get_or list v 0 ≡ the_number_for head x own v
  numbers_at v h = rw is (tab_at (the_number_for head x own) head.posts v 0 h)

  pub numbers_long : length list ≡ head.posts
  numbers_long = rw is (length_tab (the_number_for head x own) head.posts)

-- 8 does not hold of as many ratios as posts
pub room_none : (posts k : ℕ) → posts ≤ k → FirstOf (room_of_ratios posts k) none
unfolding room_of_ratios
room_none posts k h = let e : ltb k posts ≡ false = le-ltb _ _ h in below e end

-- WITHOUT OWN RATIOS
module _ (head : Head) where
  none_own : length (own_of head []) ≡ 0
  none_own = by_form head.form refl
    where
      by_form : (f : Form) → head.form ≡ f → length (own_of head []) ≡ 0
      by_form First e = ap length (own_first head [] e)
      by_form Second e = omega (arith, own_count head [] e)

pub ready_plain : {head : Head} {p q a b lengths : List ℕ} → Ready head p q a b lengths → Plain head a b lengths
ready_plain {head} r =
    let s = r.sound in
    record {
      b_level = r.b_level;
      lengths_level = r.lengths_level;
      sound = record { head_sound = s.head_sound; few_segments = s.few_segments; ratios_sound = λ v k ne. absurd (omega (arith, none_own head)); segments_sound = s.segments_sound };
    }

-- the lightest tree goes by no ratio
pub plain_lightest : (head : Head) (p q a b lengths : List ℕ) {t : List ℕ} → t ≡ lightest_of every (net_at head [] [] a b lengths) → t ≡ lightest_of every (net_at head p q a b lengths)
unfolding lightest_of
plain_lightest head p q a b lengths e = e
