-- "The ratio isn't reduced: 2/2 and 1/1 build equal trees": a net whose house ratio p/q is written as (k × p)/(k × q), and each post's own likewise by a k of its own, within the
-- bounds, has the same trees and the same laid posts, and building refuses it alike, in both forms. Two walks whose tests on entering agree at the posts are one walk (`walk_alike`);
-- the tests agree by cross products (`scaled_test`). Rests on nothing but the definitions.
use mathlib.Core.Path.{◌≡◌, refl, sym, ap, ◌∙◌}
use mathlib.Core.Bool.{Bool, true, false, not, cond}
use mathlib.Core.List.{List, [], ◌∷◌, ◌++◌}
use mathlib.Core.Option.{Option, none, some}
use Prim.Native.Nat.{ℕ, zero, suc, ◌+◌, ◌*◌, ◌≤◌, ◌<◌}
use native.Mathlib.Omega.{arith}
use native.Mathlib.Nat.{mul-add, mul_assoc, mul-le-mul_left, mul-le-mul_right, mul-lt-mul_of_pos_left, one-mul, mul-zero}
use native.Mathlib.Decide.{dec_lt, ℕ_discrete}
use lib.Dec.{eqb, ltb}
use lib.ListN.{length}
use borrow.Author.Tests.{ne_eqb, lt-ltb, le-ltb}
use Rattle.net.specs.Words.{only}
use Rattle.net.specs.Net.{Ratio, house, Net, most_ratio, ratio_at, other}
use Rattle.net.specs.Refusals.{Lent, line, wrong_ratio, head_lines, ratio_lines, present_lines, own_lines, net_lines}
use Rattle.net.specs.Trees.{at, entry, parent}
use Rattle.net.specs.Walk.{Notes, Given, hang_by, try, lay, count, enter, child, walk}
use Rattle.net.specs.Building.{ratio_in, ratio_of, p_of, q_of, lightest_of, least_lengths_of, shortest_of, given_with, walk_with, walk_of, between_of, laid_of, tree_of, joined_to_source, build_refusal, measured, build_answer, build_of, list_after, after_build}
use Rattle.net.specs.declared.Form.{Form}
use Rattle.net.specs.declared.Form.TheVariants.{First, Second}
use Rattle.net.specs.declared.Segment.{Segment}
use Rattle.net.specs.declared.Tree.{Tree}
use Rattle.net.specs.declared.Tree.TheVariants.{Lightest, Shortest, Between}
use Rattle.net.specs.declared.Refusal.{Refusal}
use Rattle.net.proofs.Words.{each_same}

-- WALKS THAT AGREE
only_same : {S : Type 0} (b : Bool) (f h : S → S) (x : S) → (b ≡ true → f x ≡ h x) → only b f x ≡ only b h x
only_same true f h x e = e refl
only_same false f h x e = refl

module _ (segs : List Segment) (n : ℕ) (walked shortest D : List ℕ) where
  abbrev given : (ℕ → ℕ) → (ℕ → ℕ) → Given
  given p q = record { segments = segs; posts = n; walked = walked; shortest = shortest; D = D; p = p; q = q }

  module _ (p q p' q' : ℕ → ℕ) where
    lay_alike : (k v : ℕ) (m : Notes) → lay (given p q) k v m ≡ lay (given p' q') k v m
    unfolding lay try hang_by
    lay_alike zero v m = refl
    lay_alike (suc k) v m =
        let u = parent segs shortest v in
        only_same (ltb (at D v) (at m.d v)) (λ x. try (given p q) u (entry shortest v) v (lay (given p q) k u x)) (λ x. try (given p' q') u (entry shortest v) v (lay (given p' q') k u x)) m
        (λ _. ap (try (given p q) u (entry shortest v) v) (lay_alike k u m))

    -- the tests agree at all posts that a walk from one of them comes to
    module _ (Post : ℕ → Type 0) (same : (v : ℕ) → Post v → (x y : ℕ) → ltb ((p v + q v) * x) (q v * y) ≡ ltb ((p' v + q' v) * x) (q' v * y)) where
      enter_alike : (v : ℕ) (m : Notes) → Post v → enter (given p q) v m ≡ enter (given p' q') v m
      unfolding enter count
      enter_alike v m h =
          rw (same v h (at D v) (at m.d v))
          (only_same (ltb ((p' v + q' v) * at D v) (q' v * at m.d v)) (λ x. count (given p q) v (lay (given p q) n v x)) (λ x. count (given p' q') v (lay (given p' q') n v x)) m
          (λ _. ap (count (given p q) v) (lay_alike n v m)))

      pub walk_alike : ((v i : ℕ) → i < length segs → child (given p q) v i ≡ true → Post (other segs i v)) → (k v : ℕ) (m : Notes) → Post v → walk (given p q) k v m ≡ walk (given p' q') k v m
      unfolding walk try hang_by
      walk_alike inside zero v m h = refl
      walk_alike inside (suc k) v m h =
          rw (enter_alike v m h)
          (each_same (length segs) _ _ (enter (given p' q') v m)
          (λ i l y. let c = other segs i v in
          only_same (child (given p q) v i) (λ x. try (given p q) c i v (walk (given p q) k c (try (given p q) v i c x))) (λ x. try (given p' q') c i v (walk (given p' q') k c (try (given p' q') v i c x))) y
          (λ e. ap (try (given p q) c i v) (walk_alike inside k c (try (given p q) v i c y) (inside v i l e)))))

-- CROSS PRODUCTS
scaled_less : (k a b : ℕ) → 1 ≤ k → ltb (k * a) (k * b) ≡ ltb a b
scaled_less k a b h = elim (dec_lt a b) [
  | yes l ↦ lt-ltb (k * a) (k * b) (mul-lt-mul_of_pos_left l h) ∙ sym (lt-ltb a b l)
  | no l ↦ le-ltb (k * a) (k * b) (mul-le-mul_left k (omega arith)) ∙ sym (le-ltb a b (omega arith))
]

pub scaled_test : (k p q x y : ℕ) → 1 ≤ k → ltb ((k * p + k * q) * x) (k * q * y) ≡ ltb ((p + q) * x) (q * y)
scaled_test k p q x y h = rw (← mul-add k p q, mul_assoc k (p + q) x, mul_assoc k q y) (scaled_less k ((p + q) * x) (q * y) h)

-- r₂ IS r written as (k × p)/(k × q); 3 holds of both or of neither
pub record Scales (r r₂ : Ratio) : Type 0 where
  pub k : ℕ
  pub once : 1 ≤ k
  pub p_is : r₂.p ≡ k * r.p
  pub q_is : r₂.q ≡ k * r.q
  pub wrong_both : wrong_ratio r₂.p r₂.q ≡ wrong_ratio r.p r.q

pub scales_self : (r : Ratio) → Scales r r
scales_self r = record { k = 1; once = omega arith; p_is = sym (one-mul r.p); q_is = sym (one-mul r.q); wrong_both = refl }

-- within the bounds
pub scales_within : (k p q : ℕ) → 1 ≤ k → k * p ≤ most_ratio → k * q ≤ most_ratio → Scales (record { p = p; q = q }) (record { p = k * p; q = k * q })
scales_within k p q once small_p small_q = record { k = k; once = once; p_is = refl; q_is = refl; wrong_both = wrong }
  where
    least : (x : ℕ) → x ≤ k * x
    least x = omega (arith, mul-le-mul_right x once, one-mul x)

    zero_both : eqb (k * q) 0 ≡ eqb q 0
    zero_both = elim (ℕ_discrete q 0) [
      | yes e ↦ rw (e, mul-zero k)
      | no e ↦ ne_eqb (k * q) 0 (λ z. e (omega (arith, least q))) ∙ sym (ne_eqb q 0 e)
    ]

    wrong : wrong_ratio (k * p) (k * q) ≡ wrong_ratio p q
    wrong = rw (zero_both, le-ltb most_ratio (k * p) small_p, le-ltb most_ratio (k * q) small_q, le-ltb most_ratio p (omega (arith, least p)), le-ltb most_ratio q (omega (arith, least q)))

-- the test on entering at the ratio r
abbrev test : Ratio → ℕ → ℕ → Bool
test r x y = ltb ((r.p + r.q) * x) (r.q * y)

same_test : {r r₂ : Ratio} → Scales r r₂ → (x y : ℕ) → test r₂ x y ≡ test r x y
same_test {r} z x y = rw (z.p_is, z.q_is) (scaled_test z.k r.p r.q x y z.once)

-- A NET AT OTHER RATIOS: the house ratio r, and own ratios of the posts
abbrev pub rated : Ratio → List Ratio → Net → Net
rated r own n = record { head = record { posts = n.head.posts; source = n.head.source; p = r.p; q = r.q; form = n.head.form }; own = own; segments = n.segments }

module _ (ok : ℕ → Bool) (n : Net) (r : Ratio) (own : List Ratio) (of-house : Scales (house n.head) r) (level : length own ≡ length n.own)
    (of-own : (v : ℕ) → Scales (ratio_at n.own v) (ratio_at own v)) where
  -- the same net
  abbrev n₂ : Net
  n₂ = rated r own n

  own_or_house : (b : Bool) (v x y : ℕ) → test (cond b r (ratio_at own v)) x y ≡ test (cond b (house n.head) (ratio_at n.own v)) x y
  own_or_house true v x y = same_test of-house x y
  own_or_house false v x y = same_test (of-own v) x y

  by_form : (f : Form) (v x y : ℕ) → test (ratio_in f n₂ v) x y ≡ test (ratio_in f n v) x y
  by_form First v x y = same_test of-house x y
  by_form Second v x y = own_or_house (eqb v n.head.source) v x y

  ratio_scaled : (v x y : ℕ) → test (ratio_of n₂ v) x y ≡ test (ratio_of n v) x y
  unfolding ratio_of
  ratio_scaled v x y = by_form n.head.form v x y

  walk_scaled : walk_of ok n₂ ≡ walk_of ok n
  unfolding walk_of walk_with given_with lightest_of shortest_of least_lengths_of
  walk_scaled =
      walk_alike n.segments n.head.posts (lightest_of ok n) (shortest_of ok n) (least_lengths_of ok n) (p_of n₂) (q_of n₂) (p_of n) (q_of n)
      (λ v. v ≡ v) (λ v _ x y. ratio_scaled v x y) (λ v i _ _. refl) n.head.posts n.head.source _ refl

  -- equal trees
  pub tree_scaled : (t : Tree) → tree_of ok n₂ t ≡ tree_of ok n t
  unfolding tree_of between_of lightest_of shortest_of
  tree_scaled Lightest = refl
  tree_scaled Shortest = refl
  tree_scaled Between = ap (λ w. w.entries) walk_scaled

  -- the same laid posts
  pub laid_scaled : laid_of ok n₂ ≡ laid_of ok n
  unfolding laid_of
  laid_scaled = ap (λ w. w.laid) walk_scaled

  own_lines_law : own_lines n.head own ≡ own_lines n.head n.own
  unfolding own_lines ratio_lines
  own_lines_law =
      rw level
      (each_same (length n.own) _ _ [] (λ v _ ls. ap (λ (b : Bool). ls ++ present_lines (not (eqb v n.head.source)) (line 3 b v ∷ [])) (of-own v).wrong_both))

  head_lines_law : (m : ℕ) → head_lines n₂.head m ≡ head_lines n.head m
  unfolding head_lines
  head_lines_law m = rw of-house.wrong_both

  same_own : own_lines n₂.head own ≡ own_lines n.head own
  unfolding own_lines
  same_own = refl

  lines_scaled : (m : ℕ) → net_lines ok m n₂ ≡ net_lines ok m n
  unfolding net_lines
  lines_scaled m = rw (head_lines_law m, same_own ∙ own_lines_law)

  refusal_scaled : (m j : ℕ) (lent : Lent) → build_refusal ok n₂ m j lent ≡ build_refusal ok n m j lent
  unfolding build_refusal joined_to_source
  refusal_scaled m j lent = rw (lines_scaled m)

  measured_scaled : (t : Tree) → measured ok n₂ t ≡ measured ok n t
  unfolding measured
  measured_scaled t = simp (tree_scaled t)

  -- BUILDING answers alike
  pub build_scaled : (m j : ℕ) (lent : Lent) → build_of ok n₂ m j lent ≡ build_of ok n m j lent
  unfolding build_of build_answer
  build_scaled m j lent = rw (refusal_scaled m j lent) (go (build_refusal ok n m j lent))
    where
      go : (o : Option Refusal) → build_answer ok n₂ o ≡ build_answer ok n o
      go none = rw (measured_scaled Lightest, measured_scaled Shortest, measured_scaled Between, laid_scaled)
      go (some x) = refl

  -- and leaves the lists alike
  pub after_scaled : (m j : ℕ) (lent : Lent) (t : Tree) (l : List ℕ) → after_build ok n₂ m j lent t l ≡ after_build ok n m j lent t l
  unfolding after_build list_after
  after_scaled m j lent t l = rw (refusal_scaled m j lent) (go (build_refusal ok n m j lent))
    where
      go : (o : Option Refusal) → list_after ok n₂ o t l ≡ list_after ok n o t l
      go none = rw (tree_scaled t)
      go (some x) = refl
