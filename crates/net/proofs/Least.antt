-- The bridge from what is computed to routes: `least` is what the least route comes to (`least_is_least`), `joined` passes exactly where there is a
-- route (`joined_chain`, `chain_joined`), and any list that is settled is this list (`settled_is`). Ends are asked only of segments that are there.
use mathlib.Core.Path.{◌≡◌, refl, sym, ap, ◌∙◌}
use mathlib.Core.Bool.{Bool, true, false, ◌&&◌, ◌||◌, cond}
use mathlib.Core.List.{List, [], ◌∷◌, ◌++◌}
use Prim.Native.Nat.{ℕ, zero, suc, ◌+◌, ◌*◌, ◌≤◌, ◌<◌}
use native.Mathlib.Omega.{arith}
use native.Mathlib.Decide.{dec_lt, dec_le}
use lib.ListN.{length, replicate, get_or-replicate}
use lib.Seq.{ext_get_or}
use native.Mathlib.Nat.{le_trans}
use lib.Dec.{eqb}
use borrow.Author.Tests.{eqb-true, eq-eqb, ltb-true, lt-ltb}
use Rattle.net.specs.Words.{each, tab}
use Rattle.net.proofs.Words.{and_i, and_left, and_right, clash, length_tab, tab_at, tab_out, each_inner, From, kept, of, least_of_start, least_of_le, least_of_from}
use Rattle.net.specs.Net.{nth_segment, touches, other, Leads, Route, here, by, Chain, weigh}
use Rattle.net.proofs.Routes.{leads_back, snoc, weigh_snoc, marked, Within, shorten, weigh_most}
use Rattle.net.specs.Trees.{none_yet, at, better, round, least, IsLeast, fewest, joined, one}
use Rattle.net.specs.declared.Segment.{Segment}

-- the ends of every segment that is there are posts
pub record Inside (segs : List Segment) (ok : ℕ → Bool) (n : ℕ) : Type 0 where
  pub a_in : (i : ℕ) → i < length segs → ok i ≡ true → (nth_segment segs i).a < n
  pub b_in : (i : ℕ) → i < length segs → ok i ≡ true → (nth_segment segs i).b < n

pub inside_part : {segs : List Segment} {ok ok' : ℕ → Bool} {n : ℕ} → ((i : ℕ) → i < length segs → ok' i ≡ true → ok i ≡ true) → Inside segs ok n → Inside segs ok' n
inside_part f h = record { a_in = λ i k o. h.a_in i k (f i k o); b_in = λ i k o. h.b_in i k (f i k o) }

touch_below : (x y n v : ℕ) (e : Bool) → eqb x v ≡ e → e || eqb y v ≡ true → x < n → y < n → v < n
touch_below x y n v true e t p q = rw (← eqb-true x v e) p
touch_below x y n v false e t p q = rw (← eqb-true y v t) q

module _ {segs : List Segment} {ok : ℕ → Bool} {n : ℕ} (h : Inside segs ok n) where
  pub leads_from : {i u v : ℕ} → Leads segs i u v → ok i ≡ true → u < n
  leads_from {i} {u} l o =
      touch_below (nth_segment segs i).a (nth_segment segs i).b n u (eqb (nth_segment segs i).a u) refl l.ends (h.a_in i l.is_segment o) (h.b_in i l.is_segment o)

  pub leads_to : {i u v : ℕ} → Leads segs i u v → ok i ≡ true → v < n
  leads_to l o = leads_from (leads_back segs l) o

pub marked_all : (n : ℕ) → marked (replicate n true) ≡ n
marked_all zero = refl
marked_all (suc n) = ap suc (marked_all n)

module _ (segs : List Segment) (ok : ℕ → Bool) (w : ℕ → ℕ) (n : ℕ) (inside : Inside segs ok n) where
  rounds : ℕ → List ℕ → List ℕ
  rounds k l = each k (λ _ m. round segs ok w n m) l

  round_keeps : (l : List ℕ) (v : ℕ) → v < n → at (round segs ok w n l) v ≤ at l v
  unfolding round better
  round_keeps l v h = rw (tab_at (better segs ok w n l) n v none_yet h) (least_of_start (λ i. ok i && touches segs i v) (λ i. at l (other segs i v) + w i) (at l v) (length segs))

  round_le : (l : List ℕ) {i u v : ℕ} → Leads segs i u v → ok i ≡ true → at (round segs ok w n l) v ≤ at l u + w i
  unfolding round better
  round_le l {i} {u} {v} k o =
      let b = leads_back segs k in
      let h : v < n = leads_to inside k o in
      rw (tab_at (better segs ok w n l) n v none_yet h, ← b.across)
      (least_of_le (λ j. ok j && touches segs j v) (λ j. at l (other segs j v) + w j) (at l v) (length segs) i k.is_segment (and_i o b.ends))

  -- a route of k segments is weighed by k rounds
  rounds_le : (l : List ℕ) {u v : ℕ} {is : List ℕ} → Route segs ok u is v → at (rounds (length is) l) v ≤ at l u + weigh w is
  unfolding rounds
  rounds_le l here = omega arith
  rounds_le l {v = v} (by {i = i} {is = is} k o r) =
      rw (← each_inner (round segs ok w n) (length is) l)
      (omega (arith, rounds_le (round segs ok w n l) r, round_le l k o))

  more_rounds : (l : List ℕ) (v j k : ℕ) → v < n → j ≤ k → at (rounds k l) v ≤ at (rounds j l) v
  unfolding rounds
  more_rounds l v j zero h p = let e : j ≡ 0 = omega arith in rw e (omega arith)
  more_rounds l v j (suc k) h p = elim (dec_le j k) [
    | yes q ↦ omega (arith, round_keeps (rounds k l) v h, more_rounds l v j k h q)
    | no q ↦ let e : j ≡ suc k = omega arith in rw e (omega arith)
  ]

  start : ℕ → List ℕ
  start s = tab n (λ v. cond (eqb v s) 0 none_yet)

  start_at : (s : ℕ) → s < n → at (start s) s ≡ 0
  unfolding start
  start_at s h = tab_at (λ v. cond (eqb v s) 0 none_yet) n s none_yet h ∙ rw (eq-eqb s s refl)

  route_end : {u v : ℕ} {is : List ℕ} → u < n → Route segs ok u is v → v < n
  route_end h here = h
  route_end h (by l o r) = route_end (leads_to inside l o) r

  pub within_all : Within segs ok (replicate n true)
  within_all i x o k t = get_or-replicate n x true false (leads_from inside (record { is_segment = k; ends = t; across = refl }) o)

  -- NO ROUTE IS LIGHTER
  pub least_le : (s : ℕ) → s < n → {v : ℕ} {is : List ℕ} → Route segs ok s is v → at (least segs ok w n s) v ≤ weigh w is
  unfolding rounds least start
  least_le s h {v} {is} r =
      let z = shorten segs w n ok (replicate n true) (marked_all n) within_all (get_or-replicate n s true false h) r in
      omega (arith, more_rounds (start s) v (length z.js) n (route_end h r) (omega (arith, z.fewer)), rounds_le (start s) z.route, start_at s h, z.lighter)

  -- a route from s to v of weight x
  pub record Weighing (s v x : ℕ) : Type 0 where
    pub is : List ℕ
    pub route : Route segs ok s is v
    pub weighs : weigh w is ≡ x

  Sound : ℕ → List ℕ → Type 0
  Sound s l = (v : ℕ) → at l v < none_yet → Weighing s v (at l v)

  at_source : (v s : ℕ) (b : Bool) → eqb v s ≡ b → cond b 0 none_yet < none_yet → Weighing s v (cond b 0 none_yet)
  at_source v s true e h = rw (eqb-true v s e) (record { is = []; route = here; weighs = refl })
  at_source v s false e h = absurd (omega arith)

  sound_start : (s : ℕ) → Sound s (start s)
  unfolding start Sound
  sound_start s v h = elim (dec_lt v n) [
    | yes p ↦ let e = tab_at (λ v. cond (eqb v s) 0 none_yet) n v none_yet p in rw e (at_source v s (eqb v s) refl (rw e at h))
    | no p ↦ absurd (omega (arith, tab_out (λ v. cond (eqb v s) 0 none_yet) n v none_yet (omega arith)))
  ]

  next : (s : ℕ) (l : List ℕ) → Sound s l → (v y : ℕ) → From (length segs) (λ i. ok i && touches segs i v) (λ i. at l (other segs i v) + w i) (at l v) y → y < none_yet → Weighing s v y
  unfolding Sound
  next s l k v y (kept e) h = rw e (k v (rw e at h))
  next s l k v y (of i p q e) h =
      let z = k (other segs i v) (omega arith) in
      let b = leads_back segs (record { is_segment = p; ends = and_right (ok i) (touches segs i v) q; across = refl }) in
      record {
        is = z.is ++ (i ∷ []);
        route = snoc segs z.route b (and_left (ok i) (touches segs i v) q);
        weighs = omega (arith, weigh_snoc segs w z.is i, z.weighs, e);
      }

  sound_round : (s : ℕ) (l : List ℕ) → Sound s l → Sound s (round segs ok w n l)
  unfolding round better Sound
  sound_round s l k v h = elim (dec_lt v n) [
    | yes p ↦
        let e = tab_at (better segs ok w n l) n v none_yet p in
        rw e (next s l k v (better segs ok w n l v) (least_of_from (λ i. ok i && touches segs i v) (λ i. at l (other segs i v) + w i) (at l v) (length segs)) (rw e at h))
    | no p ↦ absurd (omega (arith, tab_out (better segs ok w n l) n v none_yet (omega arith)))
  ]

  sound_rounds : (s k : ℕ) → Sound s (rounds k (start s))
  unfolding rounds
  sound_rounds s zero = sound_start s
  sound_rounds s (suc k) = sound_round s (rounds k (start s)) (sound_rounds s k)

  -- AND ONE IS AS LIGHT
  pub least_is : (s v : ℕ) → at (least segs ok w n s) v < none_yet → Weighing s v (at (least segs ok w n s) v)
  unfolding rounds start Sound least
  least_is s v h = sound_rounds s n v h

  start_most : (s v : ℕ) → at (start s) v ≤ none_yet
  unfolding start
  start_most s v = elim (dec_lt v n) [
    | yes p ↦ rw (tab_at (λ v. cond (eqb v s) 0 none_yet) n v none_yet p) (cond_most (eqb v s))
    | no p ↦ omega (arith, tab_out (λ v. cond (eqb v s) 0 none_yet) n v none_yet (omega arith))
  ]
    where
      cond_most : (b : Bool) → cond b 0 none_yet ≤ none_yet
      cond_most true = omega arith
      cond_most false = omega arith

  pub least_most : (s v : ℕ) → v < n → at (least segs ok w n s) v ≤ none_yet
  unfolding rounds start least
  least_most s v h = omega (arith, more_rounds (start s) v 0 n h (omega arith), start_most s v)

  -- ANY list that is 0 at the source, that no segment can better, and whose every value is some route's, is this list: what a proof of code shows of its table
  pub record Settled (s : ℕ) (l : List ℕ) : Type 0 where
    pub zero_there : at l s ≡ 0
    pub no_better : {i u v : ℕ} → Leads segs i u v → ok i ≡ true → at l v ≤ at l u + w i
    pub some_route : (v : ℕ) → v < n → at l v < none_yet → Weighing s v (at l v)
    pub most : (v : ℕ) → v < n → at l v ≤ none_yet

  settled_le : (l : List ℕ) → ((i u v : ℕ) → Leads segs i u v → ok i ≡ true → at l v ≤ at l u + w i)
      → {u v : ℕ} {is : List ℕ} → Route segs ok u is v → at l v ≤ at l u + weigh w is
  settled_le l f here = omega arith
  settled_le l f (by {u = u} {v = v} {i = i} k o r) = omega (arith, settled_le l f r, f i u v k o)

  same_by : (x y : ℕ) → x ≤ none_yet → y ≤ none_yet → (x < none_yet → y ≤ x) → (y < none_yet → x ≤ y) → x ≡ y
  same_by x y p q f g = elim (dec_lt x none_yet) [
    | yes a ↦ elim (dec_lt y none_yet) [ yes b ↦ omega (arith, f a, g b) | no b ↦ omega (arith, f a) ]
    | no a ↦ elim (dec_lt y none_yet) [ yes b ↦ omega (arith, g b) | no b ↦ omega arith ]
  ]

  pub settled_is : (s : ℕ) → s < n → (l : List ℕ) → Settled s l → (v : ℕ) → v < n → at l v ≡ at (least segs ok w n s) v
  settled_is s h l z v k =
      same_by (at l v) (at (least segs ok w n s) v) (z.most v k) (least_most s v k)
      (λ a. let r = z.some_route v k a in omega (arith, least_le s h r.route, r.weighs))
      (λ a. let r = least_is s v a in omega (arith, settled_le l (λ i u v. z.no_better) r.route, r.weighs, z.zero_there))

-- each segment counted as 1, a route comes to the number of its segments
pub weigh_one : (is : List ℕ) → weigh one is ≡ length is
weigh_one [] = refl
weigh_one (i ∷ is) = omega (arith, weigh_one is)

-- THE LAWS IN THE READER'S WORDS
module _ (segs : List Segment) (ok : ℕ → Bool) (w : ℕ → ℕ) (n : ℕ) (inside : Inside segs ok n) (s : ℕ) (below : s < n) where
  pub length_least : length (least segs ok w n s) ≡ n
  unfolding least round
  length_least = go n
    where
      go : (k : ℕ) → length (each k (λ _ l. tab n (better segs ok w n l)) (tab n (λ v. cond (eqb v s) 0 none_yet))) ≡ n
      go zero = length_tab (λ v. cond (eqb v s) 0 none_yet) n
      go (suc k) = length_tab _ n

  -- a length is the least length of a route
  pub least_is_least : (v : ℕ) → at (least segs ok w n s) v < none_yet → IsLeast segs ok w s v (at (least segs ok w n s) v)
  least_is_least v h =
      let z = least_is segs ok w n inside s v h in
      record { is = z.is; route = z.route; comes_to = z.weighs; no_less = λ js r. least_le segs ok w n inside s below r }

  -- "none yet" stands where there is no route
  pub least_none : (v : ℕ) → v < n → (Chain segs ok s v → ⊥) → at (least segs ok w n s) v ≡ none_yet
  least_none v h f = elim (dec_lt (at (least segs ok w n s) v) none_yet) [
    | yes p ↦ let z = least_is segs ok w n inside s v p in absurd (f (record { is = z.is; route = z.route }))
    | no p ↦ omega (arith, least_most segs ok w n inside s v h)
  ]

  -- where there is a route, and each segment counts for at most c, fewer than n of them are enough
  pub least_small : (c v : ℕ) → ((i : ℕ) → i < length segs → ok i ≡ true → w i ≤ c) → Chain segs ok s v → (k : ℕ) × (k < n) × (at (least segs ok w n s) v ≤ k * c)
  least_small c v f z =
      let y = shorten segs w n ok (replicate n true) (marked_all n) (within_all segs ok w n inside) (get_or-replicate n s true false below) z.route in
      (length y.js, y.fewer, le_trans (least_le segs ok w n inside s below y.route) (weigh_most segs c w f y.route))

  -- two lists that are settled are equal
  pub settled_same : (l m : List ℕ) → length l ≡ n → length m ≡ n → Settled segs ok w n inside s l → Settled segs ok w n inside s m → l ≡ m
  settled_same l m el em a b =
      ext_get_or none_yet l m (el ∙ sym em)
      (λ v h. settled_is segs ok w n inside s below l a v (omega arith) ∙ sym (settled_is segs ok w n inside s below m b v (omega arith)))

module _ (segs : List Segment) (ok : ℕ → Bool) (n : ℕ) (inside : Inside segs ok n) where
  -- `joined` passes exactly where there is a chain
  pub joined_chain : (u v : ℕ) → joined segs n ok u v ≡ true → Chain segs ok u v
  unfolding joined fewest
  joined_chain u v e =
      let z = least_is segs ok one n inside u v (ltb-true (at (least segs ok one n u) v) none_yet e) in
      record { is = z.is; route = z.route }

  -- the fewest segments are fewer than the posts
  pub fewest_few : (u v : ℕ) → u < n → Chain segs ok u v → at (fewest segs n ok u) v < n
  unfolding fewest
  fewest_few u v h c =
      let z = least_small segs ok one n inside u h 1 v (λ i k o. omega arith) c in
      omega (arith, z.1, z.2)

  pub chain_joined : (u v : ℕ) → u < n → n ≤ none_yet → Chain segs ok u v → joined segs n ok u v ≡ true
  unfolding joined
  chain_joined u v h k c = lt-ltb (at (fewest segs n ok u) v) none_yet (omega (arith, fewest_few u v h c))

  pub not_joined : (u v : ℕ) → u < n → n ≤ none_yet → joined segs n ok u v ≡ false → Chain segs ok u v → ⊥
  not_joined u v h k e c = clash (chain_joined u v h k c) e
