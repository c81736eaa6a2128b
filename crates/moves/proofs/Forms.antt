-- THE SAME NET IN A FORM: it keeps what a net keeps of ratios (`moved_kept`), every post but the source has the house ratio (`moved_house`), and nothing from 1 to 7
-- refuses it where nothing refuses the net (`moved_sound`). In its own form a net is itself where every post has the house ratio (`own_form`), so there and
-- back is the net (`there_and_back`): of the first form always (`forward_and_back`), of the second exactly there (`back_and_forward`). Relies on net's laws of own ratios and on reading's `Kept`.
use mathlib.Core.Path.{◌≡◌, refl, sym, ap, subst, ◌∙◌}
use mathlib.Core.Logic.{◌↔◌}
use mathlib.Core.Bool.{Bool, true, false}
use mathlib.Core.List.{List}
use Prim.Native.Nat.{ℕ, ◌<◌, ◌≤◌}
use native.Mathlib.Omega.{arith}
use lib.Dec.{eqb}
use lib.ListN.{length}
use lib.Seq.{ext_get_or}
use borrow.Author.Tests.{eqb-true, eqb-false}
use Rattle.net.specs.Net.{Ratio, house, no_ratio, Net, every, ratio_at, own_of}
use Rattle.net.specs.Rules.{NetSound}
use Rattle.net.specs.declared.Form.{Form}
use Rattle.net.specs.declared.Form.TheVariants.{First, Second}
use Rattle.net.specs.declared.Head.{Head}
use Rattle.net.proofs.Words.{length_tab, tab_at}
use Rattle.net.proofs.Own.{own_first, own_count, own_at}
use Rattle.reading.proofs.RoundTrip.{Kept, kept_with}
use Rattle.moves.specs.Moves.{the_head_in, houses, in_form, in_second, in_first}
use Rattle.moves.specs.Rules.{AllHouse}

houses_count : (h : Head) → length (houses h) ≡ h.posts
houses_count h = length_tab (λ _. house h) h.posts

-- as many ratios are kept as there are posts, or none
pub own_houses : (f : Form) (h : Head) → f ≡ Second → length (own_of (the_head_in f h) (houses h)) ≡ h.posts
own_houses f h e = omega (arith, own_count (the_head_in f h) (houses h) e, houses_count h)

module _ (f : Form) (n : Net) where
  pub moved_kept : Kept (in_form f n)
  unfolding in_form
  moved_kept = kept_with (the_head_in f n.head) (houses n.head) n.segments (omega (arith, houses_count n.head))

  pub moved_house : AllHouse (in_form f n)
  unfolding in_form
  moved_house v l ne = by_form f refl
    where
      by_form : (g : Form) → f ≡ g → ratio_at (own_of (the_head_in f n.head) (houses n.head)) v ≡ house n.head
      by_form First e = absurd (omega (arith, ap length (own_first (the_head_in f n.head) (houses n.head) e)))
      by_form Second e =
          let c = own_houses f n.head e in
          let k : v < n.head.posts = omega arith in
          own_at (the_head_in f n.head) (houses n.head) e v (omega (arith, houses_count n.head)) ne ∙ tab_at (λ _. house n.head) n.head.posts v no_ratio k

  pub moved_sound : (m : ℕ) → NetSound every m n → NetSound every m (in_form f n)
  unfolding in_form
  moved_sound m s =
      let h = s.head_sound in
      record {
        head_sound = record { posts_sound = record { some_posts = h.posts_sound.some_posts; few_posts = h.posts_sound.few_posts }; source_in = h.source_in; some_q = h.some_q; small_p = h.small_p; small_q = h.small_q };
        few_segments = s.few_segments;
        ratios_sound = λ v l ne. rw (moved_house v l ne) (record { some_q = h.some_q; small_p = h.small_p; small_q = h.small_q });
        segments_sound = s.segments_sound;
      }

-- A NET IS WHAT IT KEEPS of ratios that are its own at every post that has one
module _ (n : Net) (k : Kept n) where
  pub kept_from : (l : List Ratio) → n.head.posts ≤ length l → ((v : ℕ) → v < length n.own → (v ≡ n.head.source → ⊥) → ratio_at l v ≡ ratio_at n.own v) → own_of n.head l ≡ n.own
  kept_from l enough same = by_form n.head.form refl
    where
      at_post : n.head.form ≡ Second → (v : ℕ) → v < n.head.posts → (b : Bool) → eqb v n.head.source ≡ b → ratio_at (own_of n.head l) v ≡ ratio_at n.own v
      at_post e v h true c = let z = eqb-true v n.head.source c in rw z ((kept_with n.head l n.segments enough).source_blank ∙ sym k.source_blank)
      at_post e v h false c =
          let ne = eqb-false v n.head.source c in
          own_at n.head l e v (omega arith) ne ∙ same v (omega (arith, k.second_all e)) ne

      by_form : (f : Form) → n.head.form ≡ f → own_of n.head l ≡ n.own
      by_form First e = own_first n.head l e ∙ sym (k.first_none e)
      by_form Second e =
          let c = own_count n.head l e in
          let d = k.second_all e in
          ext_get_or no_ratio (own_of n.head l) n.own (omega arith) (λ v h. at_post e v (omega arith) (eqb v n.head.source) refl)

  -- IN ITS OWN FORM a net is itself where every post has the house ratio
  pub own_form : AllHouse n → in_form n.head.form n ≡ n
  unfolding in_form
  own_form all =
      let c = houses_count n.head in
      let e = kept_from (houses n.head) (omega arith) (λ v h ne. tab_at (λ _. house n.head) n.head.posts v no_ratio (own_few v h) ∙ sym (all v h ne)) in
      λ i. record { head = n.head; own = e i; segments = n.segments }
    where
      own_few : (v : ℕ) → v < length n.own → v < n.head.posts
      own_few v h = by_form n.head.form refl
        where
          by_form : (f : Form) → n.head.form ≡ f → v < n.head.posts
          by_form First e = absurd (omega (arith, ap length (k.first_none e)))
          by_form Second e = omega (arith, k.second_all e)

-- one move after another is the last of them
pub moved_twice : (f g : Form) (n : Net) → in_form g (in_form f n) ≡ in_form g n
unfolding in_form
moved_twice f g n = refl

-- THERE AND BACK: by any form to its own
pub there_and_back : (f : Form) {g : Form} (n : Net) → n.head.form ≡ g → Kept n → AllHouse n → in_form g (in_form f n) ≡ n
there_and_back f {g} n e k all = moved_twice f g n ∙ ap (λ (x : Form). in_form x n) (sym e) ∙ own_form n k all

-- FORWARD AND BACK: a net of the first form has no own ratio
pub forward_and_back : (n : Net) → Kept n → n.head.form ≡ First → in_first (in_second n) ≡ n
forward_and_back n k e = there_and_back Second n e k (λ v l ne. absurd (omega (arith, ap length (k.first_none e))))

-- BACK AND FORWARD: a net of the second form exactly where every post has the house ratio
pub back_and_forward : (n : Net) → Kept n → n.head.form ≡ Second → AllHouse n ↔ (in_second (in_first n) ≡ n)
back_and_forward n k e = (there_and_back First n e k, λ x. subst AllHouse (sym (moved_twice First Second n) ∙ x) (moved_house Second n))
