-- That rows are the index of a net is a fact with one proof: a code is on a row at one place, as the codes of a row
-- fall. So a struct may carry it. Rests on `Rows`.
use mathlib.Core.Path.{◌≡◌, refl, sym, ap, ◌∙◌, subst, subst_refl}
use mathlib.Core.List.{List}
use mathlib.Core.Logic.{◌⊎◌, inl, inr, ⊎_elim}
use mathlib.Core.HLevel.{×_prop, Π_prop}
use Rattle.std.specs.Coded.{le_prop}
use Rattle.std.specs.Borrow.{Bor}
use denote.Struct.Props.{props}
use native.Mathlib.Omega.{arith}
use Prim.Native.Nat.{ℕ, zero, suc, ◌<◌, ◌≤◌, ◌+◌, ◌*◌}
use Rattle.net.specs.declared.SegmentLists.{SegmentLists}
use Rattle.shortest.specs.Rows.{On, Index, IndexIn}

-- one of two facts that can't both hold
either_prop : {A B : Type 0} → IsProp A → IsProp B → (A → B → ⊥) → IsProp (A ⊎ B)
either_prop a b n (inl x) (inl y) = ap inl (a x y)
either_prop a b n (inl x) (inr y) = absurd (n x y)
either_prop a b n (inr x) (inl y) = absurd (n y x)
either_prop a b n (inr x) (inr y) = ap inr (b x y)

-- codes up to t fall along `next`
module _ (next : ℕ → ℕ) (t : ℕ) (falls : (c : ℕ) → 0 < c → c ≤ t → next c < c) (k : ℕ) where
  -- k is found from c within f steps
  Found : ℕ → ℕ → Type 0
  Found zero c = ⊥
  Found (suc f) c = (0 < c) × ((k ≡ c) ⊎ Found f (next c))

  found_low : (f c : ℕ) → c ≤ t → Found f c → k ≤ c
  unfolding Found
  found_low zero c m w = absurd w
  found_low (suc f) c m w =
      let g = falls c w.0 m in
      ⊎_elim (λ e. omega arith) (λ o. omega (arith, found_low f (next c) (omega arith) o)) w.1

  found_prop : (f c : ℕ) → c ≤ t → IsProp (Found f c)
  unfolding Found
  found_prop zero c m x y = absurd x
  found_prop (suc f) c m x y =
      let g = falls c x.0 m in
      let here_prop : IsProp (k ≡ c) = hlevel props in
      let n : (k ≡ c) → Found f (next c) → ⊥ = λ e o. omega (arith, found_low f (next c) (omega arith) o) in
      ×_prop le_prop (either_prop here_prop (found_prop f (next c) (omega arith)) n) x y

  found : {c : ℕ} → On next k c → (f : ℕ) → c ≤ f → c ≤ t → Found f c
  unfolding Found
  found (On.first h) zero l m = absurd (omega arith)
  found (On.first h) (suc f) l m = (h, inl refl)
  found (On.later h o) zero l m = absurd (omega arith)
  found (On.later {c = c} h o) (suc f) l m =
      let g = falls c h m in
      (h, inr (found o f (omega arith) (omega arith)))

  nonzero : {c : ℕ} → k ≡ c → 0 < c → 0 < k
  nonzero e h = omega arith

  first_at : {c : ℕ} → k ≡ c → 0 < c → On next k c
  first_at e h = subst (λ (x : ℕ). On next k x) e (On.first (nonzero e h))

  led : (f c : ℕ) → Found f c → On next k c
  unfolding Found
  led zero c w = absurd w
  led (suc f) c w = ⊎_elim (λ e. first_at e w.0) (λ o. On.later w.0 (led f (next c) o)) w.1

  led_found : {c : ℕ} (o : On next k c) (f : ℕ) (l : c ≤ f) (m : c ≤ t) → led f c (found o f l m) ≡ o
  unfolding Found found led first_at
  led_found (On.first h) zero l m = absurd (omega arith)
  led_found (On.first h) (suc f) l m =
      subst_refl (λ (x : ℕ). On next k x) (On.first (nonzero refl h)) ∙ ap On.first (le_prop _ _)
  led_found (On.later h o) zero l m = absurd (omega arith)
  led_found (On.later {c = c} h o) (suc f) l m = ap (On.later h) (led_found o f _ _)

  on_prop : (c : ℕ) → c ≤ t → IsProp (On next k c)
  on_prop c m x y =
      let l : c ≤ c = omega arith in
      sym (led_found x c l m) ∙ ap (led c c) (found_prop c c m (found x c l m) (found y c l m)) ∙ led_found y c l m

-- each of the first n ends that is a post is on that post's row, by its code
abbrev Ends : (posts n : ℕ) → (head next ends code : ℕ → ℕ) → Type 0
Ends posts n head next ends code = (i : ℕ) → i < n → ends i < posts → On next (code i) (head (ends i))

rows_prop : {a b : ℕ → ℕ} {posts t na nb : ℕ} {head next : ℕ → ℕ} → IsProp (Index a b posts t na nb head next)
rows_prop {a} {b} {posts} {t} {na} {nb} {head} {next} x y =
    let tops_prop : IsProp ((u : ℕ) → u < posts → head u ≤ t) = hlevel props in
    let falls_prop : IsProp ((c : ℕ) → 0 < c → c ≤ t → next c < c) = hlevel props in
    let ends_prop : (n : ℕ) (ends code : ℕ → ℕ) → IsProp (Ends posts n head next ends code) = λ n ends code.
    Π_prop (λ i. Π_prop (λ h. Π_prop (λ l. on_prop next t x.falls (code i) (head (ends i)) (x.tops (ends i) l)))) in
    λ i. record {
      tops = tops_prop x.tops y.tops i;
      falls = falls_prop x.falls y.falls i;
      on_a = ends_prop na a (λ j. 2 * j + 1) x.on_a y.on_a i;
      on_b = ends_prop nb b (λ j. 2 * j + 2) x.on_b y.on_b i;
    }

pub index_prop : (posts : ℕ) (s : SegmentLists) (head next : Bor (List ℕ)) → IsProp (IndexIn posts s head next)
index_prop posts s head next = rows_prop
