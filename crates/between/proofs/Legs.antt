-- The walk as the code goes through it: a leg for each child in turn. Which paths were laid before changes nothing else (`walk_on`), so that laid paths
-- can be counted beside the notes (`shows_walk`); a stretch of segments without a child changes nothing (`legs_gap`); laid paths only grow (`legs_grow`).
-- Relies on net's laws of the steps; Turns and Counting stand on it.
use mathlib.Core.Path.{◌≡◌, refl, sym, ap, ◌∙◌}
use mathlib.Core.Bool.{Bool, true, false}
use mathlib.Core.List.{List, ◌++◌}
use Prim.Native.Nat.{ℕ, zero, suc, ◌+◌, ◌*◌, ◌≤◌, ◌<◌}
use native.Mathlib.Omega.{arith}
use native.Mathlib.Decide.{dec_lt}
use lib.Dec.{ltb}
use lib.ListN.{length, length-append}
use Rattle.net.specs.Words.{each, only}
use Rattle.net.specs.Net.{length_at, other}
use Rattle.net.specs.Trees.{at, entry, parent}
use Rattle.net.specs.Walk.{Notes, Given, hang_by, try, lay, count, enter, child, walk}
use Rattle.net.proofs.Steps.{try_laid}
use Rattle.between.specs.Given.{notes_of, Shows}

-- EARLIER LAID PATHS. The same notes with more paths laid before
abbrev laid_on : List ℕ → Notes → Notes
laid_on more n = record { d = n.d; entries = n.entries; laid = n.laid ++ more }

only_on : (more : List ℕ) (b : Bool) (f h : Notes → Notes) (n : Notes) → f (laid_on more n) ≡ laid_on more (h n) → only b f (laid_on more n) ≡ laid_on more (only b h n)
only_on more true f h n e = e
only_on more false f h n e = refl

module _ (g : Given) (more : List ℕ) where
  hang_on : (u i v : ℕ) (n : Notes) → hang_by g u i v (laid_on more n) ≡ laid_on more (hang_by g u i v n)
  unfolding hang_by
  hang_on u i v n = refl

  try_on : (u i v : ℕ) (n : Notes) → try g u i v (laid_on more n) ≡ laid_on more (try g u i v n)
  unfolding try
  try_on u i v n = only_on more (ltb (at n.d u + length_at g.segments i) (at n.d v)) (hang_by g u i v) (hang_by g u i v) n (hang_on u i v n)

  lay_on : (k v : ℕ) (n : Notes) → lay g k v (laid_on more n) ≡ laid_on more (lay g k v n)
  unfolding lay
  lay_on zero v n = refl
  lay_on (suc k) v n =
      let u = parent g.segments g.shortest v in
      let f : Notes → Notes = λ m. try g u (entry g.shortest v) v (lay g k u m) in
      only_on more (ltb (at g.D v) (at n.d v)) f f n (ap (try g u (entry g.shortest v) v) (lay_on k u n) ∙ try_on u (entry g.shortest v) v (lay g k u n))

  count_on : (v : ℕ) (n : Notes) → count g v (laid_on more n) ≡ laid_on more (count g v n)
  unfolding count
  count_on v n = refl

  enter_on : (v : ℕ) (n : Notes) → enter g v (laid_on more n) ≡ laid_on more (enter g v n)
  unfolding enter
  enter_on v n =
      let f : Notes → Notes = λ m. count g v (lay g g.posts v m) in
      only_on more (ltb ((g.p v + g.q v) * at g.D v) (g.q v * at n.d v)) f f n (ap (count g v) (lay_on g.posts v n) ∙ count_on v (lay g g.posts v n))

-- LEGS. Down to the child by segment i, its walk, and back
unfoldable pub leg : Given → (k v i : ℕ) → Notes → Notes
leg g k v i n = let c = other g.segments i v in try g c i v (walk g k c (try g v i c n))

-- a leg for each child by a segment below j
abbrev pub legs : Given → (k v j : ℕ) → Notes → Notes
legs g k v j n = each j (λ i. only (child g v i) (leg g k v i)) n

pub walk_legs : (g : Given) (k v : ℕ) (n : Notes) → walk g (suc k) v n ≡ legs g k v (length g.segments) (enter g v n)
unfolding walk leg
walk_legs g k v n = refl

pub walk_none : (g : Given) (v : ℕ) (n : Notes) → walk g 0 v n ≡ n
unfolding walk
walk_none g v n = refl

module _ (g : Given) (more : List ℕ) where
  legs_on : (k v : ℕ) → ((c : ℕ) (n : Notes) → walk g k c (laid_on more n) ≡ laid_on more (walk g k c n)) → (j : ℕ) (n : Notes) → legs g k v j (laid_on more n) ≡ laid_on more (legs g k v j n)
  unfolding leg
  legs_on k v ih zero n = refl
  legs_on k v ih (suc j) n =
      let c = other g.segments j v in
      let m = legs g k v j n in
      ap (only (child g v j) (leg g k v j)) (legs_on k v ih j n)
      ∙ only_on more (child g v j) (leg g k v j) (leg g k v j) m
      (ap (λ (x : Notes). try g c j v (walk g k c x)) (try_on g more v j c m) ∙ ap (try g c j v) (ih c (try g v j c m)) ∙ try_on g more c j v (walk g k c (try g v j c m)))

  pub walk_on : (k v : ℕ) (n : Notes) → walk g k v (laid_on more n) ≡ laid_on more (walk g k v n)
  walk_on zero v n = walk_none g v (laid_on more n) ∙ ap (laid_on more) (sym (walk_none g v n))
  walk_on (suc k) v n =
      walk_legs g k v (laid_on more n) ∙ ap (legs g k v (length g.segments)) (enter_on g more v n) ∙ legs_on k v (walk_on k) (length g.segments) (enter g v n)
      ∙ ap (laid_on more) (sym (walk_legs g k v n))

-- SHOWN BESIDE. What holds of notes with no path laid holds of notes that show the same lists
shows_on : {n : Notes} {d e : List ℕ} {c : ℕ} → Shows n d e c → n ≡ laid_on n.laid (notes_of d e)
shows_on {n} {d} {e} s = rw (← s.notes, ← s.hung)

module _ (g : Given) {n : Notes} {d e : List ℕ} {c : ℕ} (s : Shows n d e c) where
  counts_on : (m : Notes) → length (laid_on n.laid m).laid ≡ c + length m.laid
  counts_on m = omega (arith, length-append m.laid n.laid, s.counted)

  pub shows_try : (u i v : ℕ) (d' e' : List ℕ) → notes_of d' e' ≡ try g u i v (notes_of d e) → Shows (try g u i v n) d' e' c
  shows_try u i v d' e' h =
      let z : try g u i v n ≡ laid_on n.laid (notes_of d' e') = ap (try g u i v) (shows_on s) ∙ try_on g n.laid u i v (notes_of d e) ∙ ap (laid_on n.laid) (sym h) in
      record { notes = ap (λ (m : Notes). m.d) z; hung = ap (λ (m : Notes). m.entries) z; counted = ap (λ (m : Notes). length m.laid) z ∙ s.counted }

  shows_laid : (m : Notes) (d' e' : List ℕ) (r : ℕ) → Shows m d' e' r → Shows (laid_on n.laid m) d' e' (c + r)
  shows_laid m d' e' r w = record { notes = w.notes; hung = w.hung; counted = omega (arith, counts_on m, w.counted) }

  walk_beside : (k v : ℕ) → walk g k v n ≡ laid_on n.laid (walk g k v (notes_of d e))
  walk_beside k v = ap (walk g k v) (shows_on s) ∙ walk_on g n.laid k v (notes_of d e)

  pub shows_walk : (k v : ℕ) (d' e' : List ℕ) (r : ℕ) → Shows (walk g k v (notes_of d e)) d' e' r → Shows (walk g k v n) d' e' (c + r)
  shows_walk k v d' e' r w = rw (walk_beside k v) (shows_laid (walk g k v (notes_of d e)) d' e' r w)

  legs_beside : (k v j : ℕ) → legs g k v j n ≡ laid_on n.laid (legs g k v j (notes_of d e))
  legs_beside k v j = ap (legs g k v j) (shows_on s) ∙ legs_on g n.laid k v (walk_on g n.laid k) j (notes_of d e)

  pub shows_legs : (k v j : ℕ) (d' e' : List ℕ) (r : ℕ) → Shows (legs g k v j (notes_of d e)) d' e' r → Shows (legs g k v j n) d' e' (c + r)
  shows_legs k v j d' e' r w = rw (legs_beside k v j) (shows_laid (legs g k v j (notes_of d e)) d' e' r w)

  -- how many paths a walk lays
  pub walk_count : (k v : ℕ) → length (walk g k v n).laid ≡ c + length (walk g k v (notes_of d e)).laid
  walk_count k v = ap (λ (m : Notes). length m.laid) (walk_beside k v) ∙ counts_on (walk g k v (notes_of d e))

  pub legs_count : (k v j : ℕ) → length (legs g k v j n).laid ≡ c + length (legs g k v j (notes_of d e)).laid
  legs_count k v j = ap (λ (m : Notes). length m.laid) (legs_beside k v j) ∙ counts_on (legs g k v j (notes_of d e))

-- any notes show their own lists
pub shows_self : (n : Notes) → Shows n n.d n.entries (length n.laid)
shows_self n = record { notes = refl; hung = refl; counted = refl }

module _ (g : Given) (k v : ℕ) where
  -- A STRETCH WITHOUT A CHILD
  pub legs_gap : (n : Notes) (j i : ℕ) → j ≤ i → ((x : ℕ) → j ≤ x → x < i → child g v x ≡ false) → legs g k v i n ≡ legs g k v j n
  legs_gap n j zero h f = let z : j ≡ 0 = omega arith in rw z
  legs_gap n j (suc i) h f = elim (dec_lt j (suc i)) [
    | yes p ↦ rw (f i (omega arith) (omega arith)) (legs_gap n j i (omega arith) (λ x a b. f x a (omega arith)))
    | no p ↦ let z : j ≡ suc i = omega arith in rw z
  ]

  -- A CHILD
  pub legs_child : (n : Notes) (i : ℕ) → child g v i ≡ true → legs g k v (suc i) n ≡ leg g k v i (legs g k v i n)
  legs_child n i e = rw e

  -- how many paths a leg lays, and that laid paths only grow
  leg_laid : (n : Notes) (i : ℕ) → length (leg g k v i n).laid ≡ length (walk g k (other g.segments i v) (try g v i (other g.segments i v) n)).laid
  unfolding leg
  leg_laid n i = let c = other g.segments i v in ap length (try_laid g c i v (walk g k c (try g v i c n)))

  leg_grows : (n : Notes) (i : ℕ) → length n.laid ≤ length (leg g k v i n).laid
  leg_grows n i =
      let c = other g.segments i v in
      let m = try g v i c n in
      omega (arith, leg_laid n i, walk_count g (shows_self m) k c, ap length (try_laid g v i c n))

  turn_grows : (b : Bool) (n : Notes) (i : ℕ) → length n.laid ≤ length (only b (leg g k v i) n).laid
  turn_grows true n i = leg_grows n i
  turn_grows false n i = omega arith

  pub legs_grow : (n : Notes) (j i : ℕ) → j ≤ i → length (legs g k v j n).laid ≤ length (legs g k v i n).laid
  legs_grow n j zero h = let z : j ≡ 0 = omega arith in rw z (omega arith)
  legs_grow n j (suc i) h = elim (dec_lt j (suc i)) [
    | yes p ↦ omega (arith, legs_grow n j i (omega arith), turn_grows (child g v i) (legs g k v i n) i)
    | no p ↦ let z : j ≡ suc i = omega arith in rw z (omega arith)
  ]
