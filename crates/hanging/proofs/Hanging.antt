-- Hanging a tree: the loop that looks at the segments in rising number fills the list `hung`. Rests on `Lists` and `Sides`.
use mathlib.Core.Path.{◌≡◌, refl, sym, ap, ◌∙◌}
use mathlib.Core.Bool.{Bool, true, false, ◌&&◌, cond}
use mathlib.Core.List.{List, ◌++◌}
use Prim.Native.Nat.{ℕ, ◌+◌, ◌<◌, ◌≤◌}
use native.Mathlib.Omega.{arith}
use native.Mathlib.Numerals.{add-one}
use lib.ListN.{length, take, drop}
use lib.Dec.{eqb}
use borrow.Author.Tests.{ne_eqb}
use Rattle.net.specs.Words.{only, lowest, no_segment}
use Rattle.net.specs.Net.{segments_of}
use Rattle.net.specs.Trees.{none_yet, fits, hung}
use Rattle.net.proofs.Words.{tab_at}
use Rattle.net.proofs.Hung.{length_hung}
use Rattle.hanging.specs.Lists.{flag, note, Filled, Sides}
use Rattle.hanging.specs.Hooks.{Hooks, fitting}
use Rattle.hanging.proofs.Lists.{taken_at, front_is}
use Rattle.hanging.proofs.Sides.{sides_many, sides_are}

and_false : (a : Bool) → a && false ≡ false
and_false true = refl
and_false false = refl

-- THE LOOP. the first i segments were looked at; t₀ is the list where the loop begins
pub record Hanging (a b weights : List ℕ) (present : List Bool) (posts : ℕ) (dist : List ℕ) (i : ℕ) (t₀ t : List ℕ) : Type 0 where
  pub up_to : i ≤ length a
  pub same : length t ≡ length t₀
  pub each : (v : ℕ) → v < posts → note t v ≡ lowest i (fits (segments_of a b weights) (flag present) (note weights) (take posts dist) v)
  pub rest : (v : ℕ) → posts ≤ v → note t v ≡ note t₀ v

module _ {a b weights : List ℕ} {present : List Bool} {posts : ℕ} (z : Sides posts a b weights present) (dist : List ℕ) (many : posts ≤ length dist) {i : ℕ} (h : i < length a) (o : flag present i ≡ true) where
  -- what the code tests is whether it fits
  fits_is : (v : ℕ) → v < posts → fits (segments_of a b weights) (flag present) (note weights) (take posts dist) v i ≡ fitting (note a i) (note b i) (note weights i) (note dist) v
  fits_is v k =
      let far : cond (eqb (note a i) v) (note b i) (note a i) < posts = pick (eqb (note a i) v) in
      rw (o, (sides_are z).a_is i, (sides_are z).b_is i, ← taken_at posts dist v none_yet k many, ← taken_at posts dist (cond (eqb (note a i) v) (note b i) (note a i)) none_yet far many)
    where
      pick : (t : Bool) → cond t (note b i) (note a i) < posts
      pick true = z.ends.b_in i h o
      pick false = z.ends.a_in i h o

module _ {a b weights : List ℕ} {present : List Bool} {posts : ℕ} {dist : List ℕ} where
  -- segment i is not present
  pub hanging_skip : {i : ℕ} {t₀ t : List ℕ} → i < length a → flag present i ≡ false → Hanging a b weights present posts dist i t₀ t → Hanging a b weights present posts dist (i + 1) t₀ t
  hanging_skip {i} {t₀} {t} h o H =
      record {
        up_to = omega arith;
        same = H.same;
        each = λ v k. rw add-one (H.each v k ∙ rw (o, and_false (eqb (lowest i (fits (segments_of a b weights) (flag present) (note weights) (take posts dist) v)) no_segment)));
        rest = H.rest;
      }

  module _ (z : Sides posts a b weights present) (many : posts ≤ length dist) {i : ℕ} (h : i < length a) (o : flag present i ≡ true) where
    -- segment i is present, and was looked at
    pub hanging_more : {x y j c : ℕ} {t₀ t t' : List ℕ} → x ≡ note a i → y ≡ note b i → j ≡ i → c ≡ note weights i → Hooks x y j c (note dist) t t' → length t' ≡ length t
        → Hanging a b weights present posts dist i t₀ t → Hanging a b weights present posts dist (i + 1) t₀ t'
    hanging_more {x} {y} {j} {c} {t₀} {t} {t'} ex ey ej ec k same H =
        record {
          up_to = omega arith;
          same = same ∙ H.same;
          each = λ v l. rw add-one (rw (fits_is z dist many h o v l, ← H.each v l) (now_at v));
          rest = λ v l. now_at v ∙ rw (ne_eqb (note a i) v (λ e. omega (arith, z.ends.a_in i h o)), ne_eqb (note b i) v (λ e. omega (arith, z.ends.b_in i h o)), and_false (eqb (note t v) no_segment)) (H.rest v l);
        }
      where
        now_at : (v : ℕ) → note t' v ≡ only (eqb (note t v) no_segment && fitting (note a i) (note b i) (note weights i) (note dist) v) (λ _. i) (note t v)
        now_at v = rw (← ex, ← ey, ← ec) (k.each v ∙ ap (λ (r : ℕ). only (eqb (note t v) no_segment && fitting x y c (note dist) v) (λ _. r) (note t v)) ej)

  -- every segment was looked at
  pub hanging_all : (t₀ : List ℕ) {t₁ t : List ℕ} → Sides posts a b weights present → posts ≤ length t₀ → length t₁ ≡ length t₀ → Filled posts 65535 (note t₀) (note t₁)
      → Hanging a b weights present posts dist (length a) t₁ t → t ≡ hung (segments_of a b weights) (flag present) (note weights) posts (take posts dist) ++ drop posts t₀
  unfolding hung
  hanging_all t₀ {t₁} {t} z long k f H =
      let segs = segments_of a b weights in
      front_is posts (hung segs (flag present) (note weights) posts (take posts dist)) t t₀ (H.same ∙ k)
      (length_hung segs (flag present) (note weights) posts (omega (arith, sides_many z, z.ends.few)) (take posts dist)) long
      (λ v h.
      H.each v h
      ∙ ap (λ (m : ℕ). lowest m (fits segs (flag present) (note weights) (take posts dist) v)) (sym (sides_many z))
      ∙ sym (tab_at (λ x. lowest (length segs) (fits segs (flag present) (note weights) (take posts dist) x)) posts v 0 h))
      (λ v h. H.rest v h ∙ f.rest v h)
