-- Laws of the paths of a tree list, each worked out once: in a list without a ring a path is a segment and the path of the post above (`Step`), so that
-- the loops of `find_path` and `note_path` end and compute `the_path_in`. Rests on `Measures`.
use mathlib.Core.Path.{◌≡◌, refl, sym, ap, ◌∙◌}
use mathlib.Core.Bool.{Bool, cond}
use mathlib.Core.List.{List, ◌++◌, map}
use mathlib.Core.Logic.{◌⊎◌, inl, inr, ⊎_elim}
use Prim.Native.Nat.{ℕ, zero, suc, ◌+◌, ◌*◌, ◌-◌, ◌≤◌, ◌<◌}
use native.Mathlib.Omega.{arith}
use native.Mathlib.Nat.{mul-le-mul_right}
use lib.Dec.{eqb}
use lib.ListN.{length, get_or, set, take, drop, length-set, get_or-append}
use lib.Seq.{length-take-le, take_at}
use Rattle.std.proofs.lemmas.List.{length-map, get_or-map}
use Rattle.net.specs.Words.{only, tab, largest, no_segment}
use Rattle.net.specs.Net.{longest, segments_of, length_at, most_posts}
use Rattle.net.specs.Trees.{entry, hangs, parent, path_up, the_path_in, radius, IsTree, Climb, arrived, up}
use Rattle.net.specs.declared.Segment.{Segment}
use Rattle.net.proofs.Words.{length_tab, tab_at}
use Rattle.net.proofs.Segments.{length_segments}
use Rattle.net.proofs.Climbs.{UpBy, climb_few}
use Rattle.net.proofs.Least.{Inside, leads_from}
use Rattle.net.proofs.Routes.{leads_back}
use borrow.Author.Tests.{eq-eqb, ne_eqb}
use Rattle.hanging.specs.Lists.{note}
use Rattle.hanging.specs.Paths.{unknown, the_first_path, Up, top, on, Rooted, Known, Listed}
use Rattle.hanging.proofs.Lists.{behind, same?, stored, taken_at, front_is, front_at}
use Rattle.hanging.proofs.Measures.{path_more, path_top, short_segments, read_up, largest_same}

-- A TREE has no ring
module _ (segs : List Segment) (ok : ℕ → Bool) (n s : ℕ) (t : List ℕ) (inside : Inside segs ok n) (free : entry t s ≡ no_segment) where
  climb_up : {v long : ℕ} → Climb segs ok t s v long → (k : ℕ) → UpBy segs t s k v → Up segs n t k v
  climb_up {v} (arrived e) zero b = top {v = v} (rw e free)
  climb_up (arrived e) (suc k) b = absurd (b.0 e)
  climb_up (up ne l o c) zero b = absurd (ne b)
  climb_up {v} (up ne l o c) (suc k) b =
      let e = (leads_back segs l).across in
      on {k = k} {v = v} l.is_segment (rw e (leads_from inside l o)) (rw e (climb_up c k (rw e at b.1)))

-- each post that is hung climbs to s, and the others are left out
pub climbs_rooted : (segs : List Segment) (ok : ℕ → Bool) (n s : ℕ) (t : List ℕ) → Inside segs ok n → length segs ≤ no_segment → entry t s ≡ no_segment
    → ((v : ℕ) → v < n → (entry t v ≡ no_segment) ⊎ ((long : ℕ) × Climb segs ok t s v long)) → Rooted segs n t
climbs_rooted segs ok n s t inside few free f = record { ends = λ v h. ⊎_elim (λ e. (0, omega arith, top e)) (λ c. climbs v h c.1) (f v h) }
  where
    climbs : (v : ℕ) → v < n → {long : ℕ} → Climb segs ok t s v long → (k : ℕ) × (k ≤ n) × Up segs n t k v
    climbs v h c =
        let z = climb_few segs ok t s n inside few free h c in
        (z.0, omega (arith, z.1), climb_up segs ok n s t inside free c z.0 z.2)

pub tree_rooted : (segs : List Segment) (ok : ℕ → Bool) (n s : ℕ) (t : List ℕ) {path : ℕ → ℕ} → Inside segs ok n → length segs ≤ no_segment → IsTree segs ok n s t path → Rooted segs n t
tree_rooted segs ok n s t inside few r = climbs_rooted segs ok n s t inside few r.source_entry (λ v h. inr (_, r.reaches v h))

-- THE POST ABOVE
module _ (segs : List Segment) (n : ℕ) (t : List ℕ) where
  -- the number of segments on the way up from v, of at most f
  unfoldable pub steps : ℕ → ℕ → ℕ
  steps zero v = 0
  steps (suc f) v = only (hangs t v) (λ _. suc (steps f (parent segs t v))) 0

  steps_are : length segs ≤ no_segment → {k v : ℕ} → Up segs n t k v → (f : ℕ) → k ≤ f → steps f v ≡ k
  unfolding steps
  steps_are few (top e) zero h = refl
  steps_are few (top e) (suc f) h = rw (eq-eqb _ no_segment e)
  steps_are few (on l p z) zero h = absurd (omega arith)
  steps_are few {v = v} (on l p z) (suc f) h = rw (ne_eqb (entry t v) no_segment (λ e. omega arith)) (ap suc (steps_are few z f (omega arith)))

  -- how many segments may be followed does not matter, where they are enough
  path_enough : length segs ≤ no_segment → {k v : ℕ} → Up segs n t k v → (f g : ℕ) → k ≤ f → k ≤ g → path_up segs n t f v ≡ path_up segs n t g v
  path_enough few {v = v} (top e) f g h i = path_top segs n t f v e ∙ sym (path_top segs n t g v e)
  path_enough few (on l p z) zero g h i = absurd (omega arith)
  path_enough few (on l p z) (suc f) zero h i = absurd (omega arith)
  path_enough few {v = v} (on l p z) (suc f) (suc g) h i =
      let ne : entry t v ≡ no_segment → ⊥ = λ e. omega arith in
      path_more segs n t f v ne ∙ ap (λ (x : ℕ). length_at segs (entry t v) + x) (path_enough few z f g (omega arith) (omega arith)) ∙ sym (path_more segs n t g v ne)

  -- from v by a segment of length x to the post u, which is nearer to the top
  pub record Step (v x u : ℕ) : Type 0 where
    pub post : u < n
    pub segment : entry t v < length segs
    pub path : the_path_in segs n t v ≡ x + the_path_in segs n t u
    pub nearer : steps n u < steps n v

  above_by : length segs ≤ no_segment → {k v : ℕ} → (entry t v ≡ no_segment → ⊥) → k ≤ n → Up segs n t k v → Step v (length_at segs (entry t v)) (parent segs t v)
  unfolding the_path_in
  above_by few ne h (top e) = absurd (ne e)
  above_by few {v = v} ne h (on l p z) =
      let q : n ≡ suc (n - 1) = omega arith in
      record {
        post = p;
        segment = l;
        path =
            ap (λ (f : ℕ). path_up segs n t f v) q ∙ path_more segs n t (n - 1) v ne
            ∙ ap (λ (x : ℕ). length_at segs (entry t v) + x) (path_enough few z (n - 1) n (omega arith) (omega arith));
        nearer = omega (arith, steps_are few z n (omega arith), steps_are few (on l p z) n h);
      }

  above : length segs ≤ no_segment → Rooted segs n t → (v : ℕ) → v < n → (entry t v ≡ no_segment → ⊥) → Step v (length_at segs (entry t v)) (parent segs t v)
  above few r v h ne = let z = r.ends v h in above_by few ne z.1 z.2

-- A LIST OF PATHS. t is the first n entries of the tree list
module _ {n : ℕ} {a b l tree : List ℕ} (z : Listed n a b l tree) where
  abbrev segs : List Segment
  segs = segments_of a b l

  abbrev t : List ℕ
  t = take n tree

  few_segments : length segs ≤ no_segment
  few_segments = omega (arith, length_segments a b l z.b_many z.lengths_many, z.few)

  path_most : (k v : ℕ) → path_up segs n t k v ≤ k * longest
  unfolding path_up
  path_most zero v = omega arith
  path_most (suc k) v =
      ⊎_elim (λ e. omega (arith, path_top segs n t (suc k) v e))
      (λ ne. omega (arith, path_more segs n t k v ne, path_most k (parent segs t v), short_segments a b l z.b_many z.lengths_many z.short (entry t v))) (same? (entry t v) no_segment)

  -- no path is as long as `unknown`
  pub path_short : (v : ℕ) → the_path_in segs n t v < unknown
  unfolding the_path_in
  path_short v =
      let h : n * longest ≤ most_posts * longest = mul-le-mul_right longest z.few_posts in
      omega (arith, path_most n v)

  module _ {p : List ℕ} (k : Known segs n t p) {v : ℕ} (h : v < n) where
    pub known_path : (note p v ≡ unknown → ⊥) → note p v ≡ the_path_in segs n t v
    known_path ne = ⊎_elim (λ e. e) (λ e. absurd (ne e.0)) (k.each v h)

    module _ (f : note p v ≡ unknown) {e : ℕ} (ee : e ≡ note tree v) where
      is_entry : e ≡ entry t v
      is_entry = ee ∙ taken_at n tree v no_segment h z.entries

      step : Step segs n t v (length_at segs (entry t v)) (parent segs t v)
      step = above segs n t few_segments z.rooted v h (⊎_elim (λ y. absurd (omega (arith, y, path_short v))) (λ y. y.1) (k.each v h))

      -- a post whose path isn't known hangs by a segment
      pub segment_in : e < length a
      segment_in = omega (arith, is_entry, step.segment, length_segments a b l z.b_many z.lengths_many)

      -- one entry up, in what the code reads: the entry e, its segment's length x, its ends i and j, and the end u across from v
      pub step_up : {x i j u : ℕ} → x ≡ get_or l e 0 → i ≡ get_or a e 0 → j ≡ get_or b e 0 → u ≡ cond (eqb i v) j i → Step segs n t v x u
      step_up ex ei ej eu = let r = read_up a b l z.b_many z.lengths_many t v is_entry ex ei ej eu in rw (r.0, r.1) step

module _ (segs : List Segment) (n : ℕ) (t : List ℕ) where
  -- FINDING. total leads from `post` up to v
  pub record Finding (post v total : ℕ) : Type 0 where
    pub here : v < n
    pub is : the_path_in segs n t post ≡ total + the_path_in segs n t v

  pub finding_more : {post v total x u : ℕ} → Finding post v total → Step segs n t v x u → Finding post u (total + x)
  finding_more f s = record { here = s.post; is = omega (arith, f.is, s.path) }

  -- NOTING. the posts from `post` up to v have been noted, and `left` is the path of v
  pub record Noting (post : ℕ) (p₀ p : List ℕ) (v left : ℕ) : Type 0 where
    pub here : v < n
    pub is : left ≡ the_path_in segs n t v
    pub same : length p ≡ length p₀
    pub known : Known segs n t p
    pub begun : (v ≡ post) ⊎ (note p post ≡ the_path_in segs n t post)
    pub still : (x : ℕ) → note p₀ x ≡ the_path_in segs n t x → note p x ≡ the_path_in segs n t x
    pub rest : (x : ℕ) → n ≤ x → note p x ≡ note p₀ x

  pub noting_more : {post v left x u : ℕ} {p₀ p : List ℕ} → n ≤ length p₀ → Noting post p₀ p v left → Step segs n t v x u → Noting post p₀ (set p v left) u (left - x)
  noting_more {post} {v} {left} {p₀ = p₀} {p = p} h w s =
      record {
        here = s.post;
        is = omega (arith, w.is, s.path);
        same = simp length-set w.same;
        known = record { each = λ y g. ⊎_elim (λ e. inl (now y e.0 e.1)) (λ e. rw e.1 (w.known.each y g)) (at y) };
        begun = inr (⊎_elim (λ e. now post e.0 e.1) (λ e. e.1 ∙ ⊎_elim (λ f. absurd (e.0 (sym f))) (λ f. f) w.begun) (at post));
        still = λ y g. ⊎_elim (λ e. now y e.0 e.1) (λ e. e.1 ∙ w.still y g) (at y);
        rest = λ y g. ⊎_elim (λ e. absurd (omega (arith, e.0, w.here))) (λ e. e.1 ∙ w.rest y g) (at y);
      }
    where
      at : (y : ℕ) → ((y ≡ v) × (note (set p v left) y ≡ left)) ⊎ ((y ≡ v → ⊥) × (note (set p v left) y ≡ note p y))
      at y = stored p v y left 0 (omega (arith, w.same, w.here))

      now : (y : ℕ) → y ≡ v → note (set p v left) y ≡ left → note (set p v left) y ≡ the_path_in segs n t y
      now y e f = f ∙ w.is ∙ ap (λ (o : ℕ). the_path_in segs n t o) (sym e)

  -- ALL OF THEM. the paths of the first v posts are known
  pub record Learning (p₀ p : List ℕ) (v : ℕ) : Type 0 where
    pub up_to : v ≤ n
    pub same : length p ≡ length p₀
    pub known : Known segs n t p
    pub done : (x : ℕ) → x < v → note p x ≡ the_path_in segs n t x
    pub rest : (x : ℕ) → n ≤ x → note p x ≡ note p₀ x

  pub learning_none : {p : List ℕ} → Known segs n t p → Learning p p 0
  learning_none k = record { up_to = omega arith; same = refl; known = k; done = λ x h. absurd (omega arith); rest = λ x h. refl }

  -- e: the list before any path was written
  pub learning_all : (e : List ℕ) {p₀ p : List ℕ} → n ≤ length e → length p₀ ≡ length e → ((x : ℕ) → n ≤ x → note p₀ x ≡ note e x) → Learning p₀ p n → p ≡ tab n (the_path_in segs n t) ++ drop n e
  learning_all e {p = p} h k r w =
      front_is n (tab n (the_path_in segs n t)) p e (w.same ∙ k) (length_tab (the_path_in segs n t) n) h (λ v g. w.done v g ∙ sym (tab_at (the_path_in segs n t) n v 0 g)) (λ x g. w.rest x g ∙ r x g)

  -- the largest of them is the radius; p was lent from the front of a longer list
  pub lent_radius : (old : List ℕ) {most : ℕ} {p : List ℕ} → n ≤ length old → length p ≡ length (take n old) → p ≡ tab n (the_path_in segs n t) ++ drop n (take n old)
      → most ≡ largest (length (take n (p ++ drop n old))) (note (take n (p ++ drop n old))) → most ≡ radius segs n t
  unfolding radius
  lent_radius old {p = p} h k f g =
      let f-long = length_tab (the_path_in segs n t) n in
      let e : length p ≡ n = k ∙ length-take-le n old h in
      g ∙ rw (take_at p (drop n old) n e, e)
      (largest_same n (note p) (the_path_in segs n t) (λ v i. front_at n (tab n (the_path_in segs n t)) (drop n (take n old)) p 0 f f-long v i ∙ tab_at (the_path_in segs n t) n v 0 i))

-- BEGINNING. f, at the front of a list that was p, says which posts hang by none
module _ (n : ℕ) (tree : List ℕ) (few : n ≤ length tree) (p : List ℕ) {f : List ℕ} (is : f ≡ map the_first_path (take n tree)) where
  places : length f ≡ n
  places = ap length is ∙ simp length-map (length-take-le n tree few)

  first_of : (v : ℕ) → v < n → note (f ++ drop n p) v ≡ the_first_path (entry (take n tree) v)
  first_of v h =
      get_or-append f (drop n p) 0 v (omega (arith, places)) ∙ ap (λ (l : List ℕ). get_or l v 0) is
      ∙ get_or-map the_first_path (take n tree) v no_segment 0 (omega (arith, length-take-le n tree few))

  pub begun_rest : (v : ℕ) → n ≤ v → note (f ++ drop n p) v ≡ note p v
  begun_rest v h = behind n f p places v h

  pub begun_known : (net : List Segment) → Known net n (take n tree) (f ++ drop n p)
  unfolding the_path_in
  begun_known net = record { each = known_first }
    where
      known_first : (v : ℕ) → v < n → (note (f ++ drop n p) v ≡ the_path_in net n (take n tree) v) ⊎ ((note (f ++ drop n p) v ≡ unknown) × (entry (take n tree) v ≡ no_segment → ⊥))
      known_first v h =
          ⊎_elim
          (λ y. inl (first_of v h ∙ rw (eq-eqb (entry (take n tree) v) no_segment y) (sym (path_top net n (take n tree) n v y))))
          (λ y. inr (first_of v h ∙ rw (ne_eqb (entry (take n tree) v) no_segment y), y))
          (same? (entry (take n tree) v) no_segment)
