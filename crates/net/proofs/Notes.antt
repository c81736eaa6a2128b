-- What holds of the notes at every moment of the walk (`Fine`), whatever it is given that keeps `Owed`: no note is below the least length, and the entries
-- of the posts with a note are a tree. Laying brings a post's note down to its least length (`lay_down`); on entering, a post meets its limit (`enter_limit`).
-- No length above 0 is asked, and a direct path only of posts that have a route.
use mathlib.Core.Path.{◌≡◌, refl, sym, ap, ◌∙◌}
use mathlib.Core.Bool.{Bool, true, not, cond}
use mathlib.Core.List.{List, []}
use Prim.Native.Nat.{ℕ, zero, suc, ◌+◌, ◌*◌, ◌≤◌, ◌<◌}
use native.Mathlib.Omega.{arith}
use native.Mathlib.Nat.{mul-le-mul_left, add-mul, le_trans}
use native.Mathlib.Decide.{ℕ_discrete}
use lib.ListN.{length, length-set, length-replicate, get_or-replicate}
use lib.Seq.{get_or-set_same, get_or-set_other}
use lib.Dec.{eqb}
use borrow.Author.Tests.{eq-eqb, ne_eqb}
use Rattle.net.specs.Words.{no_segment}
use Rattle.net.specs.Net.{length_at, Leads}
use Rattle.net.specs.Trees.{none_yet, at, entry, hangs, parent}
use Rattle.net.specs.Walk.{Notes, Given, at_start, hang_by, try, lay, count, enter, child}
use Rattle.net.proofs.Words.{tab_at, length_tab, clash}
use Rattle.net.proofs.Routes.{leads_back}
use Rattle.net.proofs.Least.{Inside, leads_from, leads_to}
use Rattle.net.proofs.Climbs.{Falling, source, step, HungAnew, anew_falls, at_new, anew}
use Rattle.net.proofs.Steps.{try_cases, lay_cases, enter_cases, lay_none, try_note, count_d}

-- a post's entry in the shortest tree leads one step down its direct path
pub record DirectStep (g : Given) (ok : ℕ → Bool) (rank : ℕ → ℕ) (v : ℕ) : Type 0 where
  pub leads : Leads g.segments (entry g.shortest v) (parent g.segments g.shortest v) v
  pub there : ok (entry g.shortest v) ≡ true
  pub adds : at g.D (parent g.segments g.shortest v) + length_at g.segments (entry g.shortest v) ≡ at g.D v
  pub nearer : rank (parent g.segments g.shortest v) < rank v

-- what the walk from s is owed by the tree walked, the shortest tree and its lengths; the rank falls on the way up a direct path
pub record Owed (g : Given) (ok : ℕ → Bool) (s : ℕ) : Type 0 where
  pub inside : Inside g.segments ok g.posts
  pub below : s < g.posts
  pub few : length g.segments ≤ no_segment
  pub walked_ok : (v i : ℕ) → i < length g.segments → child g v i ≡ true → ok i ≡ true
  pub d_zero : at g.D s ≡ 0
  pub d_most : (v : ℕ) → v < g.posts → at g.D v ≤ none_yet
  pub d_least : {i u v : ℕ} → Leads g.segments i u v → ok i ≡ true → at g.D v ≤ at g.D u + length_at g.segments i
  pub rank : ℕ → ℕ
  pub rank_most : (v : ℕ) → v < g.posts → rank v < g.posts
  pub direct : (v : ℕ) → v < g.posts → (v ≡ s → ⊥) → at g.D v < none_yet → DirectStep g ok rank v

-- the way up from v by the entries of the notes n
abbrev pub Upward : Given → (ℕ → Bool) → ℕ → Notes → ℕ → Type 0
Upward g ok s n v = Falling g.segments ok s (λ x. at n.d x) (λ x. entry n.entries x) v

pub record Fine (g : Given) (ok : ℕ → Bool) (s : ℕ) (n : Notes) : Type 0 where
  pub d_long : length n.d ≡ g.posts
  pub entries_long : length n.entries ≡ g.posts
  pub at_source : at n.d s ≡ 0
  pub source_free : entry n.entries s ≡ no_segment
  pub low : (v : ℕ) → v < g.posts → at n.d v ≤ none_yet
  pub above : (v : ℕ) → v < g.posts → at g.D v ≤ at n.d v
  pub upward : (v : ℕ) → v < g.posts → at n.d v < none_yet → Upward g ok s n v
  pub hung_noted : (v : ℕ) → v < g.posts → hangs n.entries v ≡ true → at n.d v < none_yet

-- what a post that hangs hangs by
pub record Hooked (g : Given) (ok : ℕ → Bool) (n : Notes) (v : ℕ) : Type 0 where
  pub leads : Leads g.segments (entry n.entries v) (parent g.segments n.entries v) v
  pub there : ok (entry n.entries v) ≡ true
  pub room : at n.d (parent g.segments n.entries v) + length_at g.segments (entry n.entries v) ≤ at n.d v

module _ (g : Given) (ok : ℕ → Bool) (s : ℕ) (owed : Owed g ok s) where
  -- A TRY THAT PASSES
  hung_anew : (u i v : ℕ) (n : Notes) → v < length n.d → v < length n.entries → at n.d u + length_at g.segments i < at n.d v
      → HungAnew g.segments u v i (λ x. at n.d x) (λ x. entry n.entries x) (λ x. at (hang_by g u i v n).d x) (λ x. entry (hang_by g u i v n).entries x)
  unfolding hang_by
  hung_anew u i v n hd he h =
      record {
        less = h;
        new_note = get_or-set_same n.d v (at n.d u + length_at g.segments i) none_yet hd;
        new_entry = get_or-set_same n.entries v i no_segment he;
        old_note = λ x ne. get_or-set_other n.d v x (at n.d u + length_at g.segments i) none_yet ne;
        old_entry = λ x ne. get_or-set_other n.entries v x i no_segment ne;
      }

  hang_long : (u i v : ℕ) (n : Notes) → (length (hang_by g u i v n).d ≡ length n.d) × (length (hang_by g u i v n).entries ≡ length n.entries)
  unfolding hang_by
  hang_long u i v n = (length-set n.d v (at n.d u + length_at g.segments i), length-set n.entries v i)

  fine_hang : (u i v : ℕ) (n : Notes) → Leads g.segments i u v → ok i ≡ true → at n.d u + length_at g.segments i < at n.d v → Fine g ok s n → Fine g ok s (hang_by g u i v n)
  fine_hang u i v n l o h f =
      let kv : v < g.posts = leads_to owed.inside l o in
      let ku : u < g.posts = leads_from owed.inside l o in
      let a = hung_anew u i v n (omega (arith, f.d_long)) (omega (arith, f.entries_long)) h in
      let falls : (x : ℕ) → at (hang_by g u i v n).d x ≤ at n.d x =
      anew_falls g.segments ok s u v i (λ x. at n.d x) (λ x. entry n.entries x) (λ x. at (hang_by g u i v n).d x) (λ x. entry (hang_by g u i v n).entries x) a in
      let ns : v ≡ s → ⊥ = λ e. omega (arith, ap (at n.d) e, f.at_source) in
      let from = f.upward u ku (omega (arith, f.low v kv)) in
      let new : Upward g ok s (hang_by g u i v n) v =
      at_new g.segments ok s u v i (λ x. at n.d x) (λ x. entry n.entries x) (λ x. at (hang_by g u i v n).d x) (λ x. entry (hang_by g u i v n).entries x) a ns l o from in
      record {
        d_long = (hang_long u i v n).0 ∙ f.d_long;
        entries_long = (hang_long u i v n).1 ∙ f.entries_long;
        at_source = omega (arith, falls s, f.at_source);
        source_free = a.old_entry s (λ e. ns (sym e)) ∙ f.source_free;
        low = λ x k. le_trans (falls x) (f.low x k);
        above = λ x k. elim (ℕ_discrete x v) [
          | yes e ↦ rw e (omega (arith, a.new_note, owed.d_least l o, f.above u ku))
          | no e ↦ omega (arith, a.old_note x e, f.above x k)
        ];
        upward = λ x k z. elim (ℕ_discrete x v) [
          | yes e ↦ rw e new
          | no e ↦ anew g.segments ok s u v i (λ x. at n.d x) (λ x. entry n.entries x) (λ x. at (hang_by g u i v n).d x) (λ x. entry (hang_by g u i v n).entries x) a new (f.upward x k (omega (arith, a.old_note x e)))
        ];
        hung_noted = λ x k z. elim (ℕ_discrete x v) [
          | yes e ↦ rw e (omega (arith, a.new_note, f.low v kv))
          | no e ↦ omega (arith, a.old_note x e, f.hung_noted x k (rw (a.old_entry x e) at z))
        ];
      }

  pub fine_try : (u i v : ℕ) (n : Notes) → Leads g.segments i u v → ok i ≡ true → Fine g ok s n → Fine g ok s (try g u i v n)
  fine_try u i v n l o f = try_cases g u i v n (Fine g ok s) (λ h. fine_hang u i v n l o h f) (λ h. f)

  -- LAYING
  -- a post that is above its least length is not the source, and has a direct path
  pub late_step : (v : ℕ) (n : Notes) → v < g.posts → Fine g ok s n → at g.D v < at n.d v → DirectStep g ok owed.rank v
  late_step v n k f h = owed.direct v k (λ e. omega (arith, ap (at n.d) e, f.at_source)) (omega (arith, f.low v k))

  pub fine_lay : (k v : ℕ) (n : Notes) → v < g.posts → Fine g ok s n → Fine g ok s (lay g k v n)
  fine_lay zero v n h f = rw (lay_none g v n) f
  fine_lay (suc k) v n h f =
      lay_cases g k v n (Fine g ok s)
      (λ z.
      let t = late_step v n h f z in
      let u = parent g.segments g.shortest v in
      fine_try u (entry g.shortest v) v (lay g k u n) t.leads t.there (fine_lay k u n (leads_from owed.inside t.leads t.there) f))
      (λ z. f)

  -- the note of v comes down to the least length
  pub lay_down : (k v : ℕ) (n : Notes) → v < g.posts → Fine g ok s n → owed.rank v < k → at (lay g k v n).d v ≤ at g.D v
  lay_down zero v n h f r = absurd (omega arith)
  lay_down (suc k) v n h f r =
      lay_cases g k v n (λ m. at m.d v ≤ at g.D v)
      (λ z.
      let t = late_step v n h f z in
      let u = parent g.segments g.shortest v in
      let hu = leads_from owed.inside t.leads t.there in
      omega (
        arith,
        try_note g u (entry g.shortest v) v (lay g k u n) (omega (arith, (fine_lay k u n hu f).d_long)),
        lay_down k u n hu f (omega (arith, t.nearer)),
        t.adds,
      ))
      (λ z. z)

  -- ENTERING
  pub fine_count : (v : ℕ) (n : Notes) → Fine g ok s n → Fine g ok s (count g v n)
  unfolding count
  fine_count v n f =
      record {
        d_long = f.d_long;
        entries_long = f.entries_long;
        at_source = f.at_source;
        source_free = f.source_free;
        low = f.low;
        above = f.above;
        upward = f.upward;
        hung_noted = f.hung_noted;
      }

  pub fine_enter : (v : ℕ) (n : Notes) → v < g.posts → Fine g ok s n → Fine g ok s (enter g v n)
  fine_enter v n h f = enter_cases g v n (Fine g ok s) (λ z. fine_count v (lay g g.posts v n) (fine_lay g.posts v n h f)) (λ z. f)

  -- q × d(x) is at most (p + q) × D(x)
  abbrev pub Limit : ℕ → Notes → Type 0
  Limit x n = g.q x * at n.d x ≤ (g.p x + g.q x) * at g.D x

  pub limit_lower : (x : ℕ) (n m : Notes) → at m.d x ≤ at n.d x → Limit x n → Limit x m
  limit_lower x n m h l = le_trans (mul-le-mul_left (g.q x) h) l

  pub enter_limit : (v : ℕ) (n : Notes) → v < g.posts → Fine g ok s n → Limit v (enter g v n)
  enter_limit v n h f =
      enter_cases g v n (Limit v)
      (λ z.
      let e = ap (λ (l : List ℕ). at l v) (count_d g v (lay g g.posts v n)) in
      let a = mul-le-mul_left (g.q v) (lay_down g.posts v n h f (owed.rank_most v h)) in
      omega (arith, ap (λ (y : ℕ). g.q v * y) e, a, add-mul (g.p v) (g.q v) (at g.D v)))
      (λ z. z)

  -- THE START
  start_note : (v : ℕ) → v < g.posts → at (at_start g.posts s).d v ≡ cond (eqb v s) 0 none_yet
  unfolding at_start
  start_note v h = tab_at (λ v. cond (eqb v s) 0 none_yet) g.posts v none_yet h

  pub start_other : (v : ℕ) → v < g.posts → (v ≡ s → ⊥) → at (at_start g.posts s).d v ≡ none_yet
  start_other v h ne = start_note v h ∙ rw (ne_eqb v s ne)

  start_source : at (at_start g.posts s).d s ≡ 0
  start_source = start_note s owed.below ∙ rw (eq-eqb s s refl)

  pub start_entry : (v : ℕ) → v < g.posts → entry (at_start g.posts s).entries v ≡ no_segment
  unfolding at_start
  start_entry v h = get_or-replicate g.posts v no_segment no_segment h

  start_long : (length (at_start g.posts s).d ≡ g.posts) × (length (at_start g.posts s).entries ≡ g.posts)
  unfolding at_start
  start_long = (length_tab (λ v. cond (eqb v s) 0 none_yet) g.posts, length-replicate g.posts no_segment)

  pub start_laid : (at_start g.posts s).laid ≡ []
  unfolding at_start
  start_laid = refl

  pub fine_start : Fine g ok s (at_start g.posts s)
  fine_start =
      record {
        d_long = start_long.0;
        entries_long = start_long.1;
        at_source = start_source;
        source_free = start_entry s owed.below;
        low = λ v h. elim (ℕ_discrete v s) [ yes e ↦ rw e (omega (arith, start_source)) | no e ↦ omega (arith, start_other v h e) ];
        above = λ v h. elim (ℕ_discrete v s) [
          | yes e ↦ rw e (omega (arith, start_source, owed.d_zero))
          | no e ↦ omega (arith, start_other v h e, owed.d_most v h)
        ];
        upward = λ v h z. elim (ℕ_discrete v s) [ yes e ↦ source e | no e ↦ absurd (omega (arith, start_other v h e)) ];
        hung_noted = λ v h z. absurd (clash (z) (ap (λ (i : ℕ). not (eqb i no_segment)) (start_entry v h)));
      }

  -- a post that hangs hangs by a segment that is there, from a post whose note leaves room for it
  pub hooked : (n : Notes) → Fine g ok s n → (v : ℕ) → v < g.posts → hangs n.entries v ≡ true → Hooked g ok n v
  hooked n f v h z = go (f.upward v h (f.hung_noted v h z))
    where
      go : Upward g ok s n v → Hooked g ok n v
      go (source e) = absurd (clash z (ap (λ (i : ℕ). not (eqb i no_segment)) (ap (entry n.entries) e ∙ f.source_free)))
      go (step u ne l o r w) =
          let e : parent g.segments n.entries v ≡ u = (leads_back g.segments l).across in
          record { leads = rw e l; there = o; room = rw e r }
