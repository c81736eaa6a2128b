-- What the code of try, lay and enter does on each of its ways, as equations with the definitions; and that direct paths can still be laid afterwards.
-- Relies on Lists and on net's laws of the steps (`try_lower`, `enter_lower`).
use mathlib.Core.Path.{◌≡◌, refl, sym, ap, ◌∙◌}
use mathlib.Core.Bool.{Bool, true, false}
use mathlib.Core.List.{List}
use Prim.Native.Nat.{ℕ, zero, suc, ◌+◌, ◌-◌, ◌*◌, ◌≤◌, ◌<◌}
use native.Mathlib.Omega.{arith}
use lib.Dec.{ltb}
use lib.ListN.{length, get_or, set}
use borrow.Author.Tests.{le-ltb, lt-ltb}
use Rattle.net.specs.Net.{length_at, other}
use Rattle.net.specs.Trees.{at, entry, parent}
use Rattle.net.specs.Walk.{Notes, Given, hang_by, try, lay, count, enter, walk}
use Rattle.net.specs.declared.Segment.{Segment}
use Rattle.net.proofs.Steps.{lay_cases, try_lower, enter_lower, count_d, count_entries, count_laid}
use Rattle.net.proofs.Tour.{tour, moves, walk_is_tour, moves_lower}
use Rattle.between.specs.Given.{notes_of, Shows, Lists, the_end_beyond}
use Rattle.between.specs.Laying.{depth, Late, Layable, Direct, Entering}

-- TRY
module _ (g : Given) (u i v : ℕ) (d e : List ℕ) (x z long : ℕ) (t : Bool) (ex : x ≡ at d u) (ez : z ≡ at d v) (et : t ≡ ltb (x + long) z) (el : length_at g.segments i ≡ long) where
  hang_is : notes_of (set d v (x + long)) (set e v i) ≡ hang_by g u i v (notes_of d e)
  unfolding hang_by
  hang_is = rw (el, ← ex)

  pub try_hit : (d' e' : List ℕ) → t ≡ true → d' ≡ set d v (x + long) → e' ≡ set e v i → notes_of d' e' ≡ try g u i v (notes_of d e)
  unfolding try
  try_hit d' e' h ed ee = rw (el, ← ex, ← ez, ← et, h, ed, ee) hang_is

  pub try_miss : t ≡ false → notes_of d e ≡ try g u i v (notes_of d e)
  unfolding try
  try_miss h = rw (el, ← ex, ← ez, ← et, h)

-- the other end, as the lists have it
pub other_is : {segs : List Segment} {a b lengths : List ℕ} → Lists segs a b lengths → (i v : ℕ) → other segs i v ≡ the_end_beyond a b i v
other_is l i v = rw (l.a_is i, l.b_is i)

-- LAY. The parent's depth is less
pub lay_rises : {shortest up dist d : List ℕ} → Layable shortest up dist d → (v x y : ℕ) → x ≡ at dist v → y ≡ at d v → x < y → (u w : ℕ) → w ≡ get_or up v 0 → u ≡ w
    → depth shortest up (length up) u < depth shortest up (length up) v
lay_rises layable v x y ex ey h u w ew eu = rw (eu, ew) (layable.deeper v (omega arith)).above

module _ {g : Given} {lengths shortest up dist : List ℕ} (dir : Direct g lengths shortest up dist) (k v : ℕ) (d e : List ℕ) (x y : ℕ) (ex : x ≡ at dist v) (ey : y ≡ at d v) where
  near : (m : ℕ) → y ≤ x → notes_of d e ≡ lay g m v (notes_of d e)
  unfolding lay
  near zero h = refl
  near (suc m) h = rw (dir.d_is, ← ex, ← ey, le-ltb x y h)

  pub lay_near : y ≤ x → notes_of d e ≡ lay g k v (notes_of d e)
  lay_near = near k

  far : (m i u : ℕ) (n₁ n₂ : Notes) → x < y → i ≡ entry g.shortest v → u ≡ parent g.segments g.shortest v → n₁ ≡ lay g m u (notes_of d e) → n₂ ≡ try g u i v n₁ → n₂ ≡ lay g (suc m) v (notes_of d e)
  far m i u n₁ n₂ h ei eu e₁ e₂ =
      lay_cases g m v (notes_of d e) (λ n. n₂ ≡ n) (λ _. rw (← eu, ← ei, ← e₁) e₂) (λ z. absurd (omega (arith, ex, ey, ap (λ (l : List ℕ). at l v) dir.d_is)))

  module _ (layable : Layable shortest up dist d) (h : x < y) where
    late : Late dist d v
    late = omega arith

    pub lay_far : (Late dist d v → depth shortest up (length up) v < k) → (i u w j l : ℕ) → i ≡ entry shortest v → w ≡ get_or up v 0 → u ≡ w → j ≡ i → l ≡ get_or lengths j 0 → (n₁ n₂ : Notes)
        → ((Late dist d u → depth shortest up (length up) u < k - 1) → n₁ ≡ lay g (k - 1) u (notes_of d e)) → (length_at g.segments i ≡ l → n₂ ≡ try g u i v n₁) → n₂ ≡ lay g k v (notes_of d e)
    lay_far deep i u w j l ei ew eu ej el n₁ n₂ e₁ e₂ =
        let b : depth shortest up (length up) v < k = deep late in
        let z : k ≡ suc (k - 1) = omega (arith, b) in
        let eu' : u ≡ parent g.segments g.shortest v = eu ∙ ew ∙ dir.up_is v (layable.deeper v late).is_post in
        let el' : length_at g.segments i ≡ l = dir.lengths_are i ∙ ap (λ (j : ℕ). get_or lengths j 0) (sym ej) ∙ sym el in
        rw z (far (k - 1) i u n₁ n₂ h (ei ∙ ap (λ (l : List ℕ). entry l v) (sym dir.shortest_is)) eu' (e₁ (λ _. omega (arith, lay_rises layable v x y ex ey h u w ew eu, b))) (e₂ el'))

-- ENTER
module _ {g : Given} {v : ℕ} {limits lengths shortest up dist : List ℕ} (en : Entering g v limits lengths shortest up dist) (d e : List ℕ) (x y : ℕ) (ex : x ≡ at limits v) (ey : y ≡ at d v) where
  over_test : ltb x y ≡ ltb ((g.p v + g.q v) * at g.D v) (g.q v * at d v)
  over_test = rw (ex, ey) (en.limit_is (at d v))

  over_is : ltb x y ≡ true → enter g v (notes_of d e) ≡ count g v (lay g g.posts v (notes_of d e))
  unfolding enter
  over_is h = rw (← over_test, h)

  under_is : ltb x y ≡ false → enter g v (notes_of d e) ≡ notes_of d e
  unfolding enter
  under_is h = rw (← over_test, h)

  pub enter_over : x < y → (d' e' : List ℕ) → Layable shortest up dist d → ((Late dist d v → depth shortest up (length up) v < g.posts) → notes_of d' e' ≡ lay g g.posts v (notes_of d e)) → Shows (enter g v (notes_of d e)) d' e' 1
  enter_over h d' e' layable el = rw (over_is (lt-ltb x y h), ← el (λ z. omega (arith, (layable.deeper v z).deep, en.direct.posts_are)))
      (record {
        notes = count_d g v (notes_of d' e');
        hung = count_entries g v (notes_of d' e');
        counted = ap length (count_laid g v (notes_of d' e'));
      })

  pub enter_under : y ≤ x → Shows (enter g v (notes_of d e)) d e 0
  enter_under h = rw (under_is (le-ltb x y h)) (record { notes = refl; hung = refl; counted = refl })

-- NOTES ONLY FALL, so what could be laid still can
layable_lower : {shortest up dist d d' : List ℕ} → ((x : ℕ) → at d' x ≤ at d x) → Layable shortest up dist d → Layable shortest up dist d'
layable_lower low h = record { deeper = λ v late. h.deeper v (let z = low v in omega (arith, late)) }

module _ (g : Given) (n : Notes) {shortest up dist : List ℕ} (layable : Layable shortest up dist n.d) where
  pub layable_try : (u i v : ℕ) (d e : List ℕ) → notes_of d e ≡ try g u i v n → Layable shortest up dist d
  layable_try u i v d e h = layable_lower (λ x. let z : at d x ≡ at (try g u i v n).d x = ap (λ (m : Notes). at m.d x) h in omega (arith, z, try_lower g u i v n x)) layable

  pub layable_enter : (v c : ℕ) (d e : List ℕ) → Shows (enter g v n) d e c → Layable shortest up dist d
  layable_enter v c d e h = layable_lower (λ x. let z : at (enter g v n).d x ≡ at d x = ap (λ (l : List ℕ). at l x) h.notes in omega (arith, z, enter_lower g v n x)) layable

  pub layable_walk : (k v c : ℕ) (d e : List ℕ) → Shows (walk g k v n) d e c → Layable shortest up dist d
  layable_walk k v c d e h =
      layable_lower
      (λ x.
      let z : at (walk g k v n).d x ≡ at d x = ap (λ (l : List ℕ). at l x) h.notes in
      let w : at (walk g k v n).d x ≡ at (moves g n (tour g k v)).d x = ap (λ (m : Notes). at m.d x) (walk_is_tour g k v n) in
      omega (arith, z, w, moves_lower g n (tour g k v) x))
      layable
