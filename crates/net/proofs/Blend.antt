-- A list that is overwritten from the front: its first i entries are those of `g`, which it is to be, and the others those of `l`, which it was.
-- Any loop that stores at i = 0, 1, .. is one of these (`Over`). Rests on nothing of ours.
use mathlib.Core.Path.{◌≡◌, refl, sym, ap, ◌∙◌}
use mathlib.Core.List.{List, [], ◌∷◌, ◌++◌, append-nil}
use Prim.Native.Nat.{ℕ, zero, suc, ◌+◌, ◌<◌, ◌≤◌}
use native.Mathlib.Numerals.{add-one}
use native.Mathlib.Omega.{arith}
use lib.ListN.{length, get_or, take, drop, set, length-set, length-append, length-drop, drop_of_length-le, get_or-append}
use lib.Seq.{take_all, take_at}

-- g as far as i, and l from there on
abbrev pub blend : ℕ → List ℕ → List ℕ → List ℕ
blend i g l = take i g ++ drop i l

-- the whole list is overwritten
blend_all : (i : ℕ) (g l : List ℕ) → length g ≡ length l → length l ≤ i → blend i g l ≡ g
blend_all i g l e h = rw (drop_of_length-le l h, append-nil) (take_all i g (omega arith))

-- what stands at i is still what it was
blend_at : (i : ℕ) (g l : List ℕ) → length g ≡ length l → get_or (blend i g l) i 0 ≡ get_or l i 0
blend_at zero g l e = refl
blend_at (suc i) [] [] e = refl
blend_at (suc i) [] (y ∷ l) e = absurd (omega arith)
blend_at (suc i) (x ∷ g) [] e = absurd (omega arith)
blend_at (suc i) (x ∷ g) (y ∷ l) e = blend_at i g l (omega arith)

-- the store at i, of what the list is to be there
blend_more : (i : ℕ) (g l : List ℕ) → length g ≡ length l → set (blend i g l) i (get_or g i 0) ≡ blend (suc i) g l
blend_more zero [] [] e = refl
blend_more zero [] (y ∷ l) e = absurd (omega arith)
blend_more zero (x ∷ g) [] e = absurd (omega arith)
blend_more zero (x ∷ g) (y ∷ l) e = refl
blend_more (suc i) [] [] e = refl
blend_more (suc i) [] (y ∷ l) e = absurd (omega arith)
blend_more (suc i) (x ∷ g) [] e = absurd (omega arith)
blend_more (suc i) (x ∷ g) (y ∷ l) e = ap (λ r. x ∷ r) (blend_more i g l (omega arith))

-- no store at i, where the list is to be what it was
blend_keep : (i : ℕ) (g l : List ℕ) → length g ≡ length l → get_or l i 0 ≡ get_or g i 0 → blend i g l ≡ blend (suc i) g l
blend_keep zero [] [] e h = refl
blend_keep zero [] (y ∷ l) e h = absurd (omega arith)
blend_keep zero (x ∷ g) [] e h = absurd (omega arith)
blend_keep zero (x ∷ g) (y ∷ l) e h = ap (λ r. r ∷ l) h
blend_keep (suc i) [] [] e h = refl
blend_keep (suc i) [] (y ∷ l) e h = absurd (omega arith)
blend_keep (suc i) (x ∷ g) [] e h = absurd (omega arith)
blend_keep (suc i) (x ∷ g) (y ∷ l) e h = ap (λ r. x ∷ r) (blend_keep i g l (omega arith) h)

-- x is the list l overwritten by g as far as i: the invariant of a loop that stores at i = 0, 1, ..
pub record Over (l g x : List ℕ) (i : ℕ) : Type 0 where
  pub within : i ≤ length l
  pub same : length x ≡ length l
  pub goal : length g ≡ length l
  pub is : x ≡ blend i g l

-- where the loop begins
pub over_none : (l g : List ℕ) → length g ≡ length l → Over l g l 0
over_none l g e = record { within = omega arith; same = refl; goal = e; is = refl }

module _ {l g x : List ℕ} {i : ℕ} (o : Over l g x i) where
  -- what is read at i
  pub over_at : get_or x i 0 ≡ get_or l i 0
  over_at = rw o.is (blend_at i g l o.goal)

  -- a turn that stores v
  pub over_more : i < length l → (v : ℕ) → v ≡ get_or g i 0 → Over l g (set x i v) (i + 1)
  over_more h v e =
      record { within = omega arith; same = length-set x i v ∙ o.same; goal = o.goal; is = rw (o.is, e, add-one) (blend_more i g l o.goal) }

  -- a turn that stores nothing
  pub over_keep : i < length l → get_or l i 0 ≡ get_or g i 0 → Over l g x (i + 1)
  over_keep h e = record { within = omega arith; same = o.same; goal = o.goal; is = o.is ∙ rw add-one (blend_keep i g l o.goal e) }

  -- after the loop
  pub over_all : length x ≤ i → x ≡ g
  over_all h = o.is ∙ blend_all i g l o.goal (let e = o.same in omega arith)

-- A FRONT: i entries of t stand in x, which was l; at the end x begins with t, and goes on as l did
pub record Put (t l x : List ℕ) (i : ℕ) : Type 0 where
  pub upto : i ≤ length t
  pub fits : length t ≤ length l
  pub same : length x ≡ length l
  pub over : Over l (t ++ drop (length t) l) x i

pub put_none : (t l : List ℕ) → length t ≤ length l → Put t l l 0
put_none t l h =
    record { upto = omega arith; fits = h; same = refl; over = over_none l (t ++ drop (length t) l) (simp (length-append, length-drop) (omega arith)) }

pub put_more : {t l x : List ℕ} {i : ℕ} → Put t l x i → i < length t → Put t l (set x i (get_or t i 0)) (i + 1)
put_more {t} {l} {x} {i} p h =
    let o = over_more p.over (omega (arith, p.fits)) (get_or t i 0) (sym (get_or-append t (drop (length t) l) 0 i h)) in
    record { upto = omega arith; fits = p.fits; same = o.same; over = o }

pub put_all : {t l x : List ℕ} {i : ℕ} → Put t l x i → length t ≤ i → x ≡ t ++ drop (length t) l
put_all {t} {l} {x} {i} p h =
    let e : i ≡ length t = omega (arith, p.upto) in
    (rw e at p.over.is) ∙ ap (λ (z : List ℕ). z ++ drop (length t) l) (take_at t (drop (length t) l) (length t) refl)
