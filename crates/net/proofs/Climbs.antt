-- Laws of paths in a tree list. From a post there is one climb (`climb_same`); it is a route of the net (`climb_route`); it has fewer segments than
-- there are posts (`climb_few`), so that `the_path_in` follows it to its end (`climb_path`). No segment need have a length above 0.
-- Then the tree of entries under falling notes: it stays a tree when a post is hung anew (`anew`, `at_new`).
use mathlib.Core.Path.{◌≡◌, refl, sym, ap, ◌∙◌, subst}
use mathlib.Core.Bool.{Bool, true, false}
use mathlib.Core.List.{List, [], ◌∷◌, ◌++◌}
use Prim.Native.Nat.{ℕ, zero, suc, ◌+◌, ◌-◌, ◌≤◌, ◌<◌}
use native.Mathlib.Omega.{arith}
use native.Mathlib.Decide.{ℕ_discrete}
use lib.ListN.{length, get_or, set, replicate, get_or-replicate}
use lib.Seq.{get_or-set_other}
use borrow.Author.Tests.{ne_eqb}
use Rattle.net.specs.Words.{no_segment}
use Rattle.net.specs.Net.{length_at, Leads, Route, here, route_length, Chain}
use Rattle.net.specs.Trees.{entry, hangs, parent, Climb, arrived, up, path_up, the_path_in}
use Rattle.net.specs.declared.Segment.{Segment}
use Rattle.net.proofs.Routes.{leads_back, snoc, weigh_snoc, marked, marked_drop}
use Rattle.net.proofs.Least.{Inside, leads_from, marked_all}

module _ (segs : List Segment) (t : List ℕ) where
  -- where a climb goes on
  next : {u v : ℕ} → Leads segs (entry t v) u v → parent segs t v ≡ u
  next l = (leads_back segs l).across

  -- j steps up from v
  up_n : ℕ → ℕ → ℕ
  up_n zero v = v
  up_n (suc j) v = up_n j (parent segs t v)

  -- going up from v comes to s after k steps, and not before
  abbrev pub UpBy : ℕ → ℕ → ℕ → Type 0
  UpBy s zero v = v ≡ s
  UpBy s (suc k) v = (v ≡ s → ⊥) × UpBy s k (parent segs t v)

  up_same : (s j k v : ℕ) → UpBy s j v → UpBy s k v → j ≡ k
  up_same s zero zero v a b = refl
  up_same s zero (suc k) v a b = absurd (b.0 a)
  up_same s (suc j) zero v a b = absurd (a.0 b)
  up_same s (suc j) (suc k) v a b = ap suc (up_same s j k (parent segs t v) a.1 b.1)

  up_from : (s m j v k : ℕ) → k ≡ m + j → UpBy s k v → UpBy s m (up_n j v)
  unfolding up_n
  up_from s m zero v k e a = let q : k ≡ m = omega arith in subst (λ (x : ℕ). UpBy s x v) q a
  up_from s m (suc j) v zero e a = absurd (omega arith)
  up_from s m (suc j) v (suc k) e a = up_from s m j (parent segs t v) k (omega arith) a.1

  -- the posts on the way up are different, so there are more marks than steps
  steps_marked : (s k v : ℕ) (bs : List Bool) → UpBy s k v → ((j : ℕ) → j ≤ k → get_or bs (up_n j v) false ≡ true) → k < marked bs
  unfolding up_n
  steps_marked s zero v bs a on = omega (arith, marked_drop bs v (on 0 (omega arith)))
  steps_marked s (suc k) v bs a on =
      let d = marked_drop bs v (on 0 (omega arith)) in
      let r = steps_marked s k (parent segs t v) (set bs v false) a.1 (λ j h. get_or-set_other bs v (up_n j (parent segs t v)) false false (other_post j h) ∙ on (suc j) (omega arith)) in
      omega arith
    where
      other_post : (j : ℕ) → j ≤ k → up_n j (parent segs t v) ≡ v → ⊥
      other_post j h e =
          let m : ℕ = k - j in
          let b : UpBy s m (up_n j (parent segs t v)) = up_from s m j (parent segs t v) k (omega arith) a.1 in
          omega (arith, up_same s (suc k) m v a (subst (λ (x : ℕ). UpBy s m x) e b))

module _ (segs : List Segment) (ok : ℕ → Bool) (t : List ℕ) (s : ℕ) where
  -- from a post there is one climb
  pub climb_same : {v long long' : ℕ} → Climb segs ok t s v long → Climb segs ok t s v long' → long ≡ long'
  climb_same (arrived e) (arrived f) = refl
  climb_same (arrived e) (up ne l o c) = absurd (ne e)
  climb_same (up ne l o c) (arrived f) = absurd (ne f)
  climb_same {v} (up {u = u} {long = m} ne l o c) (up {u = u'} {long = m'} ne' l' o' c') =
      let e : u' ≡ u = sym (next segs t l') ∙ next segs t l in
      ap (λ (x : ℕ). length_at segs (entry t v) + x) (climb_same c (subst (λ (x : ℕ). Climb segs ok t s x m') e c'))

  -- a climb is a route of the net, of the same length
  pub climb_route : {v long : ℕ} → Climb segs ok t s v long → (is : List ℕ) × Route segs ok s is v × (route_length segs is ≡ long)
  climb_route (arrived e) = ([], rw e here, refl)
  climb_route {v} (up ne l o c) =
      let z = climb_route c in
      (z.0 ++ (entry t v ∷ []), snoc segs z.1 l o, omega (arith, weigh_snoc segs (length_at segs) z.0 (entry t v), z.2))

  pub climb_chain : {v long : ℕ} → Climb segs ok t s v long → Chain segs ok s v
  climb_chain c = let z = climb_route c in record { is = z.0; route = z.1 }

  module _ (n : ℕ) (inside : Inside segs ok n) (few : length segs ≤ no_segment) (free : entry t s ≡ no_segment) where
    record Ascent (v long : ℕ) : Type 0 where
      k : ℕ
      by_k : UpBy segs t s k v
      within : (j : ℕ) → j ≤ k → up_n segs t j v < n
      path : (f : ℕ) → k ≤ f → path_up segs n t f v ≡ long

    entry_hangs : {u v : ℕ} → Leads segs (entry t v) u v → hangs t v ≡ true
    entry_hangs {u} {v} l = let h = l.is_segment in rw (ne_eqb (entry t v) no_segment (λ e. omega arith))

    source_path : (f v : ℕ) → v ≡ s → path_up segs n t f v ≡ 0
    unfolding path_up
    source_path zero v e = refl
    source_path (suc f) v e = rw (e, free)

    step_path : (f : ℕ) {u v long : ℕ} → Leads segs (entry t v) u v → path_up segs n t f u ≡ long → path_up segs n t (suc f) v ≡ length_at segs (entry t v) + long
    unfolding path_up
    step_path f {u} {v} l e = rw (entry_hangs l, next segs t l, e)

    ascent : {v long : ℕ} → v < n → Climb segs ok t s v long → Ascent v long
    unfolding up_n
    ascent {v} h (arrived e) =
        record { k = 0; by_k = e; within = λ j z. let y : j ≡ 0 = omega arith in rw y h; path = λ f z. source_path f v e }
    ascent {v} h (up {u = u} {long = m} ne l o c) =
        let r = ascent (leads_from inside l o) c in
        record {
          k = suc r.k;
          by_k = (ne, rw (next segs t l) r.by_k);
          within = λ j z. on_way r.k r.within j z;
          path = λ f z. longer r.k r.path f z;
        }
      where
        on_way : (k : ℕ) → ((j : ℕ) → j ≤ k → up_n segs t j u < n) → (j : ℕ) → j ≤ suc k → up_n segs t j v < n
        on_way k f zero z = h
        on_way k f (suc j) z = rw (next segs t l) (f j (omega arith))

        longer : (k : ℕ) → ((f : ℕ) → k ≤ f → path_up segs n t f u ≡ m) → (f : ℕ) → suc k ≤ f → path_up segs n t f v ≡ length_at segs (entry t v) + m
        longer k g zero z = absurd (omega arith)
        longer k g (suc f) z = step_path f l (g f (omega arith))

    ascent_few : {v long : ℕ} (a : Ascent v long) → a.k < n
    ascent_few {v} a =
        omega (arith, steps_marked segs t s a.k v (replicate n true) a.by_k (λ j z. get_or-replicate n (up_n segs t j v) true false (a.within j z)), marked_all n)

    -- a climb has fewer segments than there are posts
    pub climb_few : {v long : ℕ} → v < n → Climb segs ok t s v long → (k : ℕ) × (k < n) × UpBy segs t s k v
    climb_few h c = let a = ascent h c in (a.k, ascent_few a, a.by_k)

    -- `the_path_in` is the length of the climb
    pub climb_path : {v long : ℕ} → v < n → Climb segs ok t s v long → the_path_in segs n t v ≡ long
    unfolding the_path_in
    climb_path h c = let a = ascent h c in a.path n (omega (arith, ascent_few a))

-- THE TREE OF ENTRIES UNDER FALLING NOTES
-- from v up to s by the entries e, each segment's length within the fall of the notes d
pub data Falling (segs : List Segment) (ok : ℕ → Bool) (s : ℕ) (d e : ℕ → ℕ) : ℕ → Type 0 where
  source : {v : ℕ} → v ≡ s → Falling segs ok s d e v
  step : {v : ℕ} (u : ℕ) → (v ≡ s → ⊥) → Leads segs (e v) u v → ok (e v) ≡ true → d u + length_at segs (e v) ≤ d v → Falling segs ok s d e u → Falling segs ok s d e v

-- it is a climb, no longer than the note
pub falling_climb : (segs : List Segment) (ok : ℕ → Bool) (s : ℕ) (t : List ℕ) (d : ℕ → ℕ) {v : ℕ} → Falling segs ok s d (λ x. entry t x) v → (long : ℕ) × Climb segs ok t s v long × (long ≤ d v)
falling_climb segs ok s t d (source e) = (0, arrived e, omega arith)
falling_climb segs ok s t d {v} (step u ne l o r f) =
    let z = falling_climb segs ok s t d f in
    (length_at segs (entry t v) + z.0, up ne l o z.1, omega (arith, z.2))

-- v is hung below u by i, with the note that u gives it, which is below the old one
pub record HungAnew (segs : List Segment) (u v i : ℕ) (d e d' e' : ℕ → ℕ) : Type 0 where
  pub less : d u + length_at segs i < d v
  pub new_note : d' v ≡ d u + length_at segs i
  pub new_entry : e' v ≡ i
  pub old_note : (x : ℕ) → (x ≡ v → ⊥) → d' x ≡ d x
  pub old_entry : (x : ℕ) → (x ≡ v → ⊥) → e' x ≡ e x

module _ (segs : List Segment) (ok : ℕ → Bool) (s u v i : ℕ) (d e d' e' : ℕ → ℕ) (a : HungAnew segs u v i d e d' e') where
  -- no note rises
  pub anew_falls : (x : ℕ) → d' x ≤ d x
  anew_falls x = elim (ℕ_discrete x v) [
    | yes z ↦ rw z (omega (arith, a.new_note, a.less))
    | no z ↦ omega (arith, a.old_note x z)
  ]

  -- the step of another post stays as it was
  other_step : (x y : ℕ) → (x ≡ v → ⊥) → (x ≡ s → ⊥) → Leads segs (e x) y x → ok (e x) ≡ true → d y + length_at segs (e x) ≤ d x → Falling segs ok s d' e' y → Falling segs ok s d' e' x
  other_step x y ne ns l o r f =
      let q = a.old_entry x ne in
      step y ns (rw q l) (rw q o) (rw q (omega (arith, a.old_note x ne, anew_falls y))) f

  -- a post whose note is below v's old one does not climb by v
  clear : {x : ℕ} → d x < d v → Falling segs ok s d e x → Falling segs ok s d' e' x
  clear h (source z) = source z
  clear {x} h (step y ns l o r f) = other_step x y (λ z. omega (arith, ap d z)) ns l o r (clear (omega arith) f)

  -- v climbs by u
  pub at_new : (v ≡ s → ⊥) → Leads segs i u v → ok i ≡ true → Falling segs ok s d e u → Falling segs ok s d' e' v
  at_new ns l o f =
      let q = a.new_entry in
      step u ns (rw q l) (rw q o) (rw q (omega (arith, a.new_note, anew_falls u))) (clear (omega (arith, a.less)) f)

  -- and every other post as before, or by the new way of v
  pub anew : Falling segs ok s d' e' v → {x : ℕ} → Falling segs ok s d e x → Falling segs ok s d' e' x
  anew g (source z) = source z
  anew g {x} (step y ns l o r f) = elim (ℕ_discrete x v) [
    | yes z ↦ rw z g
    | no z ↦ other_step x y z ns l o r (anew g f)
  ]
