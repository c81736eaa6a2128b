-- Laws of the measures of a tree list: the loops of `whole_of` and `path_of` compute `whole` and `the_path_in`, and the
-- library's largest of a list is `largest`. Rests on `Lists`.
use mathlib.Core.Path.{◌≡◌, refl, sym, ap, ◌∙◌}
use mathlib.Core.Bool.{Bool, true, false, not, cond}
use mathlib.Core.List.{List, [], ◌∷◌}
use Prim.Native.Nat.{ℕ, zero, suc, ◌+◌, ◌*◌, ◌≤◌, ◌<◌, max}
use native.Mathlib.Omega.{arith}
use native.Mathlib.Numerals.{add-one}
use native.Mathlib.Decide.{dec_lt}
use lib.Dec.{eqb}
use lib.ListN.{length, get_or, get_or-eq_default}
use borrow.Author.Tests.{eqb-true, eq-eqb, ne_eqb}
use Rattle.std.specs.List.{fold, reduce}
use Rattle.std.specs.Option.{unwrap_or}
use Rattle.net.specs.Words.{each, counted, sum, largest, no_segment}
use Rattle.net.specs.Net.{longest, segments_of, nth_segment, length_at}
use Rattle.net.specs.Trees.{entry, hangs, parent, path_up, the_path_in, whole}
use Rattle.net.specs.declared.Segment.{Segment}
use Rattle.hanging.specs.Lists.{note, Short}
use Rattle.net.proofs.Segments.{segments_are}

-- no length is above 1,048,575, behind the end either
pub length_most : (l : List ℕ) → Short l → (i : ℕ) → get_or l i 0 ≤ longest
length_most l s i = elim (dec_lt i (length l)) [
  | yes p ↦ s.most i p
  | no p ↦ omega (arith, get_or-eq_default l 0 {n = i} (omega arith))
]

-- nor is that of a segment made of them
pub short_segments : (a b l : List ℕ) → length b ≡ length a → length l ≡ length a → Short l → (i : ℕ) → length_at (segments_of a b l) i ≤ longest
short_segments a b l p q s i = rw ((segments_are a b l p q).length_is i) (length_most l s i)

pub sum_same : (n : ℕ) (f h : ℕ → ℕ) → ((i : ℕ) → f i ≡ h i) → sum n f ≡ sum n h
sum_same zero f h e = refl
sum_same (suc n) f h e = rw (e n, sum_same n f h e)

-- WHOLE LENGTH. the first v entries are added up
pub record Adding (l t : List ℕ) (v total : ℕ) : Type 0 where
  pub is : total ≡ sum v (λ x. get_or l (entry t x) 0)
  pub most : total ≤ v * longest

pub adding_more : {l t : List ℕ} {v total : ℕ} → Short l → Adding l t v total → Adding l t (v + 1) (total + get_or l (entry t v) 0)
adding_more {l} {t} {v} {total} s r =
    record { is = rw add-one (ap (λ (x : ℕ). x + get_or l (entry t v) 0) r.is); most = omega (arith, r.most, length_most l s (entry t v)) }

-- the same in what the code reads
pub adding_step : {l t : List ℕ} {v total e x : ℕ} → Short l → Adding l t v total → e ≡ entry t v → x ≡ get_or l e 0 → Adding l t (v + 1) (total + x)
adding_step {l} {t} {v} {total} {e} {x} s r ee ex = let z : x ≡ get_or l (entry t v) 0 = ex ∙ ap (λ (j : ℕ). get_or l j 0) ee in rw z (adding_more s r)

counts : (b : Bool) (l : List ℕ) (e : ℕ) → length l ≤ no_segment → eqb e no_segment ≡ b → get_or l e 0 ≡ counted (not b) (get_or l e 0)
counts true l e h p = get_or-eq_default l 0 {n = e} (omega (arith, eqb-true e no_segment p))
counts false l e h p = refl

pub adding_all : {l t : List ℕ} {n total : ℕ} → length l ≤ no_segment → Adding l t n total
    → (a b : List ℕ) → length a ≡ length l → length b ≡ length l → total ≡ whole (segments_of a b l) n t
unfolding whole
adding_all {l} {t} {n} {total} h r a b p q =
    let z = segments_are a b l (q ∙ sym p) (sym p) in
    r.is ∙ sum_same n (λ x. get_or l (entry t x) 0) (λ v. counted (hangs t v) (length_at (segments_of a b l) (entry t v)))
    (λ v. counts (eqb (entry t v) no_segment) l (entry t v) h refl ∙ ap (λ (x : ℕ). counted (hangs t v) x) (sym (z.length_is (entry t v))))

-- WHAT THE CODE READS on the way up from v: the entry e, its segment's length x, its ends p and q, and the end u across from v
pub read_up : (a b l : List ℕ) → length b ≡ length a → length l ≡ length a → (t : List ℕ) (v : ℕ) {e x p q u : ℕ}
    → e ≡ entry t v → x ≡ get_or l e 0 → p ≡ get_or a e 0 → q ≡ get_or b e 0 → u ≡ cond (eqb p v) q p → (x ≡ length_at (segments_of a b l) (entry t v)) × (u ≡ parent (segments_of a b l) t v)
read_up a b l h g t v {p = p} {q = q} ee ex ep eq eu =
    let z = segments_are a b l h g in
    let ia : p ≡ (nth_segment (segments_of a b l) (entry t v)).a = ep ∙ ap (λ (j : ℕ). get_or a j 0) ee ∙ sym (z.a_is (entry t v)) in
    let ib : q ≡ (nth_segment (segments_of a b l) (entry t v)).b = eq ∙ ap (λ (j : ℕ). get_or b j 0) ee ∙ sym (z.b_is (entry t v)) in
    (ex ∙ ap (λ (j : ℕ). get_or l j 0) ee ∙ sym (z.length_is (entry t v)), eu ∙ rw (ia, ib))

-- PATHS. k segments are left to follow from v, and what is behind comes to total
pub record Climbing (a b l : List ℕ) (n : ℕ) (t : List ℕ) (post k v total : ℕ) : Type 0 where
  pub is : path_up (segments_of a b l) n t n post ≡ total + path_up (segments_of a b l) n t k v
  pub most : total + k * longest ≤ n * longest

-- one entry up, or none
pub path_more : (segs : List Segment) (n : ℕ) (t : List ℕ) (k v : ℕ) → (entry t v ≡ no_segment → ⊥) → path_up segs n t (suc k) v ≡ length_at segs (entry t v) + path_up segs n t k (parent segs t v)
unfolding path_up
path_more segs n t k v ne = rw (ne_eqb (entry t v) no_segment ne)

pub path_top : (segs : List Segment) (n : ℕ) (t : List ℕ) (k v : ℕ) → entry t v ≡ no_segment → path_up segs n t k v ≡ 0
unfolding path_up
path_top segs n t zero v e = refl
path_top segs n t (suc k) v e = rw (eq-eqb (entry t v) no_segment e)

module _ {a b l : List ℕ} {n : ℕ} {t : List ℕ} {post : ℕ} where
  -- an entry of no segment
  pub climbing_top : {k v total : ℕ} → Climbing a b l n t post k v total → entry t v ≡ no_segment → total ≡ the_path_in (segments_of a b l) n t post
  unfolding the_path_in
  climbing_top {k} {v} {total} c e = omega (arith, c.is, path_top (segments_of a b l) n t k v e)

  -- as many as there are posts
  pub climbing_all : {v total : ℕ} → Climbing a b l n t post 0 v total → total ≡ the_path_in (segments_of a b l) n t post
  unfolding path_up the_path_in
  climbing_all c = omega (arith, c.is)

  -- one entry up, in what the code reads
  pub climbing_step : {k v total e x p q u : ℕ} → length b ≡ length a → length l ≡ length a → Short l
      → Climbing a b l n t post (suc k) v total → e ≡ entry t v → (e ≡ no_segment → ⊥) → x ≡ get_or l e 0 → p ≡ get_or a e 0 → q ≡ get_or b e 0 → u ≡ cond (eqb p v) q p
      → Climbing a b l n t post k u (total + x)
  climbing_step {k} {v} {total} {e} {x} {p} {q} {u} h g s c ee ne ex ep eq eu =
      let r = read_up a b l h g t v ee ex ep eq eu in
      let m : x ≤ longest = omega (arith, ex, length_most l s e) in
      let step = path_more (segments_of a b l) n t k v (λ y. ne (ee ∙ y)) in
      record {
        is = c.is ∙ rw (r.1, r.0) (omega (arith, step));
        most = omega (arith, c.most);
      }

-- LARGEST. a thing done for each number is done for 0, and then for each number above it
each_from : {S : Type 0} (n : ℕ) (f : ℕ → S → S) (s : S) → each (suc n) f s ≡ each n (λ i. f (suc i)) (f 0 s)
each_from zero f s = refl
each_from (suc n) f s = ap (λ r. f (suc n) r) (each_from n f s)

largest_above : (l : List ℕ) (m : ℕ) → fold max m l ≡ each (length l) (λ i x. max x (note l i)) m
largest_above [] m = refl
largest_above (y ∷ l) m = largest_above l (max m y) ∙ sym (each_from (length l) (λ i x. max x (note (y ∷ l) i)) m)

-- the largest of a list as the library has it
pub largest_is : (l : List ℕ) → unwrap_or (reduce max l) 0 ≡ largest (length l) (note l)
largest_is [] = refl
largest_is (y ∷ l) =
    let e : max 0 y ≡ y = omega arith in
    largest_above l y ∙ ap (λ (m : ℕ). each (length l) (λ i x. max x (note l i)) m) (sym e) ∙ sym (each_from (length l) (λ i x. max x (note (y ∷ l) i)) 0)

pub largest_same : (n : ℕ) (f h : ℕ → ℕ) → ((i : ℕ) → i < n → f i ≡ h i) → largest n f ≡ largest n h
largest_same zero f h e = refl
largest_same (suc n) f h e = rw (e n (omega arith), largest_same n f h (λ i k. e i (omega arith)))
