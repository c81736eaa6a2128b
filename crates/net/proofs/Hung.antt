-- What the entries of a hung list say (`hung_says`: the rule `HangsBy`), which posts hang (`hung_hangs`), and that the source doesn't (`hung_source`).
use mathlib.Core.Path.{◌≡◌, refl, sym, ◌∙◌}
use mathlib.Core.Bool.{Bool, true, ◌&&◌}
use mathlib.Core.List.{List, [], ◌∷◌}
use Prim.Native.Nat.{ℕ, ◌+◌, ◌≤◌, ◌<◌}
use native.Mathlib.Omega.{arith}
use native.Mathlib.Decide.{dec_lt, ℕ_discrete}
use lib.ListN.{length}
use lib.Dec.{eqb}
use borrow.Author.Tests.{eqb-true, eq-eqb}
use Rattle.net.specs.Words.{no_segment, lowest}
use Rattle.net.proofs.Words.{and_i, and_left, and_right, clash, tab_at, length_tab, Lowest, found, nothing, lowest_is}
use Rattle.net.specs.Net.{touches, other, Leads, Route, here, by, weigh}
use Rattle.net.proofs.Routes.{leads_back, snoc, weigh_snoc}
use Rattle.net.proofs.Least.{Inside, leads_to, least_le, least_is, least_most}
use Rattle.net.specs.Trees.{none_yet, at, fits, least, hung, HangsBy, entry}
use Rattle.net.specs.declared.Segment.{Segment}

-- a route's last segment
pub record Last (segs : List Segment) (ok : ℕ → Bool) (w : ℕ → ℕ) (u v x : ℕ) : Type 0 where
  pub y : ℕ
  pub i : ℕ
  pub is : List ℕ
  pub route : Route segs ok u is y
  pub leads : Leads segs i y v
  pub there : ok i ≡ true
  pub weighs : x ≡ weigh w is + w i

last_of : (segs : List Segment) (ok : ℕ → Bool) (w : ℕ → ℕ) {u x v i : ℕ} {is : List ℕ} → Leads segs i u x → ok i ≡ true → Route segs ok x is v → Last segs ok w u v (w i + weigh w is)
last_of segs ok w {u} {x} {v} {i} l o here = record { y = u; i = i; is = []; route = here; leads = l; there = o; weighs = omega arith }
last_of segs ok w {u} {x} {v} {i} l o (by k p r) =
    let z = last_of segs ok w k p r in
    record { y = z.y; i = z.i; is = i ∷ z.is; route = by l o z.route; leads = z.leads; there = z.there; weighs = omega (arith, z.weighs) }

pub last_seg : (segs : List Segment) (ok : ℕ → Bool) (w : ℕ → ℕ) {u v : ℕ} {is : List ℕ} → Route segs ok u is v → (v ≡ u → ⊥) → Last segs ok w u v (weigh w is)
last_seg segs ok w here n = absurd (n refl)
last_seg segs ok w (by l o r) n = last_of segs ok w l o r

-- a list hung by any lengths l
module _ (segs : List Segment) (ok : ℕ → Bool) (w : ℕ → ℕ) (n : ℕ) (few : length segs ≤ no_segment) (l : List ℕ) where
  passes : (v i : ℕ) → i < length segs → fits segs ok w l v i ≡ true → (ok i ≡ true) × Leads segs i (other segs i v) v × (at l (other segs i v) + w i ≡ at l v)
  passes v i h e =
      let sum_is = eqb (at l (other segs i v) + w i) (at l v) in
      let ab = and_left (ok i && touches segs i v) sum_is e in (
        and_left (ok i) (touches segs i v) ab,
        leads_back segs (record { is_segment = h; ends = and_right (ok i) (touches segs i v) ab; across = refl }),
        eqb-true (at l (other segs i v) + w i) (at l v) (and_right (ok i && touches segs i v) sum_is e),
      )

  passing : (v i : ℕ) → Leads segs i (other segs i v) v → ok i ≡ true → at l (other segs i v) + w i ≡ at l v → fits segs ok w l v i ≡ true
  passing v i k o e = and_i (and_i o (leads_back segs k).ends) (eq-eqb (at l (other segs i v) + w i) (at l v) e)

  pub length_hung : length (hung segs ok w n l) ≡ n
  unfolding hung
  length_hung = length_tab (λ v. lowest (length segs) (fits segs ok w l v)) n

  hung_at : (v : ℕ) → v < n → entry (hung segs ok w n l) v ≡ lowest (length segs) (fits segs ok w l v)
  unfolding hung
  hung_at v h = tab_at (λ v. lowest (length segs) (fits segs ok w l v)) n v no_segment h

  from_lowest : (v r : ℕ) → Lowest (length segs) (fits segs ok w l v) r → (r ≡ no_segment → ⊥) → HangsBy segs ok w l v r
  from_lowest v r (found p q z) ne =
      let y = passes v r p q in
      record { there = y.0; leads = y.1; adds = y.2; lowest_fit = λ j h k o e. clash (passing v j k o e) (z j h) }
  from_lowest v r (nothing p z) ne = absurd (ne p)

  -- a post that hangs, hangs by the lowest-numbered segment that fits
  pub hung_says : (v : ℕ) → v < n → (entry (hung segs ok w n l) v ≡ no_segment → ⊥) → HangsBy segs ok w l v (entry (hung segs ok w n l) v)
  hung_says v h ne = rw (hung_at v h) (from_lowest v (lowest (length segs) (fits segs ok w l v)) (lowest_is (fits segs ok w l v) (length segs) few) (λ e. ne (hung_at v h ∙ e)))

  must_hang : (v r : ℕ) → Lowest (length segs) (fits segs ok w l v) r → (i : ℕ) → i < length segs → fits segs ok w l v i ≡ true → r ≡ no_segment → ⊥
  must_hang v r (found p q z) i h e k = omega arith
  must_hang v r (nothing p z) i h e k = clash e (z i h)

  -- a post that some segment fits hangs
  pub fit_hangs : (v i : ℕ) → v < n → Leads segs i (other segs i v) v → ok i ≡ true → at l (other segs i v) + w i ≡ at l v → entry (hung segs ok w n l) v ≡ no_segment → ⊥
  fit_hangs v i h k o e z =
      must_hang v (lowest (length segs) (fits segs ok w l v)) (lowest_is (fits segs ok w l v) (length segs) few) i k.is_segment (passing v i k o e) (sym (hung_at v h) ∙ z)

  -- the post at 0 hangs by no segment, where each counts for something
  pub zero_free : (v : ℕ) → v < n → at l v ≡ 0 → ((i : ℕ) → i < length segs → ok i ≡ true → 1 ≤ w i) → entry (hung segs ok w n l) v ≡ no_segment
  zero_free v h e pos = elim (ℕ_discrete (entry (hung segs ok w n l) v) no_segment) [
    | yes p ↦ p
    | no p ↦ let z = hung_says v h p in absurd (omega (arith, z.adds, pos (entry (hung segs ok w n l) v) z.leads.is_segment z.there))
  ]

-- a list hung by least lengths
module _ (segs : List Segment) (ok : ℕ → Bool) (w : ℕ → ℕ) (n : ℕ) (inside : Inside segs ok n) (few : length segs ≤ no_segment) (s : ℕ) (below : s < n) where
  -- no segment betters least lengths
  pub least_no_better : {i u v : ℕ} → Leads segs i u v → ok i ≡ true → at (least segs ok w n s) v ≤ at (least segs ok w n s) u + w i
  least_no_better {i} {u} {v} l o = elim (dec_lt (at (least segs ok w n s) u) none_yet) [
    | yes p ↦
        let z = least_is segs ok w n inside s u p in
        omega (arith, least_le segs ok w n inside s below (snoc segs z.route l o), weigh_snoc segs w z.is i, z.weighs)
    | no p ↦ omega (arith, least_most segs ok w n inside s v (leads_to inside l o))
  ]

  pub least_zero : at (least segs ok w n s) s ≡ 0
  least_zero = omega (arith, least_le segs ok w n inside s below here)

  -- every post with a route, but the source, hangs
  pub hung_hangs : (v : ℕ) → v < n → (v ≡ s → ⊥) → at (least segs ok w n s) v < none_yet → entry (hung segs ok w n (least segs ok w n s)) v ≡ no_segment → ⊥
  hung_hangs v h ne k e =
      let z = least_is segs ok w n inside s v k in
      let t = last_seg segs ok w z.route ne in
      let b = leads_back segs t.leads in
      let sum_is : at (least segs ok w n s) (other segs t.i v) + w t.i ≡ at (least segs ok w n s) v =
      rw b.across (omega (arith, least_le segs ok w n inside s below t.route, least_no_better t.leads t.there, t.weighs, z.weighs)) in
      fit_hangs segs ok w n few (least segs ok w n s) v t.i h (rw b.across t.leads) t.there sum_is e

  pub hung_source : ((i : ℕ) → i < length segs → ok i ≡ true → 1 ≤ w i) → entry (hung segs ok w n (least segs ok w n s)) s ≡ no_segment
  hung_source pos = zero_free segs ok w n few (least segs ok w n s) s below least_zero pos
