-- What reading into plain lists promises, what laying the ratios over the lent lists and putting the segments out leave, taken to the lent lists: the last facts of
-- `read_front` and of the walk of `read`.
use mathlib.Core.Path.{◌≡◌, refl, sym, ap, subst, ◌∙◌}
use mathlib.Core.Logic.{◌⊎◌, inl, inr}
use mathlib.Core.List.{List, ◌++◌}
use Prim.Native.Nat.{ℕ, ◌≤◌, min}
use native.Mathlib.Omega.{arith}
use lib.ListN.{length, take, drop, length-take}
use Rattle.net.specs.Net.{Ratio, Net, most_posts, own_of, ratios_of, segments_of}
use Rattle.net.specs.declared.Segment.{Segment}
use Rattle.net.proofs.Own.{ratios_count}
use Rattle.crossings.specs.Lists.{fitting, laid, PutOut}
use Rattle.crossings.proofs.Lists.{take_segments}
use Rattle.numbers.specs.Numbers.{Got, got, refused}
use Rattle.reading.specs.Reading.{net_read}
use Rattle.reading.specs.Answers.{laid_in, ratios_read, ReadIn}
use Rattle.reading.proofs.RoundTrip.{sound_of_read}
use Rattle.on_segments.specs.Reading.{read_answer, the_count_of, PostsWithin, laid_by, list_read, ReadsFront, read_into, Reads}
use Rattle.net.specs.declared.Counted.{Counted}
use Rattle.net.specs.declared.Refusal.{Refusal}
use Rattle.std.specs.Prelude.{Result, Ok, Err}

-- as many ratios are lent as both lists go
ratio_room : (p q : List ℕ) {k : ℕ} → k ≡ min (length p) (length q) → k ≡ length (ratios_of p q)
ratio_room p q e = e ∙ sym (ratios_count p q)

-- of an answer that is known to be a net
pub within_read : {v : Result Counted Refusal} {c : Counted} {k : ℕ} → v ≡ Ok c → PostsWithin v k → c.head.posts ≤ k
within_read {k = k} e w = subst (λ (r : Result Counted Refusal). PostsWithin r k) e w

pub laid_read : {v : Result Counted Refusal} {c : Counted} (f : Ratio → ℕ) (ratios : List Ratio) (d : List ℕ) {d' : List ℕ} → v ≡ Ok c → d' ≡ laid_in c.head.form f c.head.source (own_of c.head ratios) d → d' ≡ laid_by v f ratios d
laid_read f ratios d e k = k ∙ sym (ap (λ (r : Result Counted Refusal). laid_by r f ratios d) e)

-- and of a refusal
pub laid_kept : {v : Result Counted Refusal} {e : Refusal} (f : Ratio → ℕ) (ratios : List Ratio) (d : List ℕ) → v ≡ Err e → d ≡ laid_by v f ratios d
laid_kept f ratios d e = sym (ap (λ (r : Result Counted Refusal). laid_by r f ratios d) e)

-- READING INTO LISTS TO WORK IN
module _ (bytes p q : List ℕ) (room : ℕ) {k : ℕ} (enough : k ≡ min (length p) (length q)) {r : Result Counted Refusal} {x y a b c : List ℕ} (i : ReadIn (net_read bytes room k 0) r x y a b c) where
  -- a net that was read has no more posts than a net may have, nor than ratios are lent
  within_by : (g : Got Net) → net_read bytes room k 0 ≡ g → r ≡ read_answer g → (n : ℕ) → (n ≡ most_posts) ⊎ (k ≤ n) → PostsWithin r n
  within_by (got net next) e f n (inl l) = let s = (sound_of_read bytes room k net next e).sound.head_sound.posts_sound.few_posts in rw f (omega (arith, s, l))
  within_by (got net next) e f n (inr l) = let s = (sound_of_read bytes room k net next e).ratios_enough in rw f (omega (arith, s, l))
  within_by (refused w) e f n l = rw f tt

  pub posts_within : length x ≡ most_posts → length y ≡ most_posts → PostsWithin r (length x) × PostsWithin r (length y) × PostsWithin r (length p) × PostsWithin r (length q)
  posts_within f h =
      let w = within_by (net_read bytes room k 0) refl i.answers in
      (w (length x) (inl f), w (length y) (inl h), w (length p) (inr (omega (arith, enough))), w (length q) (inr (omega (arith, enough))))

  -- what laying its ratios leaves
  laid_by_law : (f : Ratio → ℕ) (d : List ℕ) (g : Got Net) → net_read bytes room k 0 ≡ g → r ≡ read_answer g → laid_by r f (ratios_of x y) d ≡ ratios_read f g d
  laid_by_law f d (got n next) e h = rw h (ap (λ (o : List Ratio). laid_in n.head.form f n.head.source o d) (i.stored_own n next e))
  laid_by_law f d (refused w) e h = rw h

  pub reads_front : {p' q' : List ℕ} → p' ≡ laid_by r (λ o. o.p) (ratios_of x y) p → q' ≡ laid_by r (λ o. o.q) (ratios_of x y) q → ReadsFront (net_read bytes room (length (ratios_of p q)) 0) p q r p' q' a b c
  reads_front ep eq =
      let g = net_read bytes room k 0 in
      rw (← ratio_room p q enough) (record {
        answers = i.answers;
        p_is = ep ∙ laid_by_law (λ o. o.p) p g refl i.answers;
        q_is = eq ∙ laid_by_law (λ o. o.q) q g refl i.answers;
        stored = i.stored;
      })

-- READING INTO A LENT LIST
module _ (bytes p q : List ℕ) (l : List Segment) {r : Result Counted Refusal} {p' q' a b c : List ℕ} (i : ReadsFront (read_into bytes p q l) p q r p' q' a b c) {n : ℕ} (en : n ≡ the_count_of r) {l' : List Segment} (el : PutOut n (segments_of a b c) l l') where
  -- a net that was read has no more segments than there is room for
  put_by : (g : Got Net) → read_into bytes p q l ≡ g → r ≡ read_answer g → l' ≡ list_read g l
  put_by (got net next) is f =
      let w = segments_of a b c in
      let k = length net.segments in
      let count : n ≡ length net.segments = en ∙ ap the_count_of f in
      let front : take (length net.segments) (segments_of a b c) ≡ net.segments = take_segments k a b c ∙ i.stored net next is in
      let long : length (take (length net.segments) (segments_of a b c)) ≡ length net.segments = ap length front in
      let few = (sound_of_read bytes (length l) (length (ratios_of p q)) net next is).room_enough in
      let all : fitting n (length l) (length (segments_of a b c)) ≡ length net.segments = omega (arith, count, long, length-take k w, few) in
      el ∙ ap (λ (j : ℕ). laid j w l) all ∙ ap (λ (t : List Segment). t ++ drop k l) front
  put_by (refused w) is f =
      let none : fitting n (length l) (length (segments_of a b c)) ≡ 0 = omega (arith, en ∙ ap the_count_of f) in
      el ∙ ap (λ (j : ℕ). laid j (segments_of a b c) l) none

  pub reads_list : Reads bytes p q l r p' q' l'
  reads_list = record { answers = i.answers; p_is = i.p_is; q_is = i.q_is; list_is = put_by (read_into bytes p q l) refl i.answers }
