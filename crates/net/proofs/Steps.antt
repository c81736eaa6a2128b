-- The steps of the walk by cases; no note rises; trying and laying count no post; what each try keeps, laying keeps.
use mathlib.Core.Path.{◌≡◌, refl, ◌∙◌}
use mathlib.Core.Bool.{Bool, true, false}
use mathlib.Core.List.{List, ◌∷◌}
use Prim.Native.Nat.{ℕ, zero, suc, ◌+◌, ◌*◌, ◌≤◌, ◌<◌}
use native.Mathlib.Omega.{arith}
use native.Mathlib.Nat.{le_refl, le_trans}
use native.Mathlib.Decide.{dec_lt, ℕ_discrete}
use lib.ListN.{length, set}
use lib.Seq.{get_or-set_same, get_or-set_other, set_out}
use borrow.Author.Tests.{ltb-true, ltb-false}
use Rattle.net.specs.Words.{only}
use Rattle.net.specs.Net.{length_at}
use Rattle.net.specs.Trees.{none_yet, at, entry, parent}
use Rattle.net.specs.Walk.{Notes, Given, hang_by, try, lay, count, enter}

pub cases : {S : Type 0} (Q : S → Type 0) (b : Bool) (f : S → S) (x : S) → (b ≡ true → Q (f x)) → (b ≡ false → Q x) → Q (only b f x)
cases Q true f x y n = y refl
cases Q false f x y n = n refl

-- storing something smaller raises nothing
set_lower : (l : List ℕ) (v y x : ℕ) → y ≤ at l v → at (set l v y) x ≤ at l x
set_lower l v y x h = elim (ℕ_discrete x v) [
  | yes e ↦ rw e (elim (dec_lt v (length l)) [
    | yes p ↦ omega (arith, get_or-set_same l v y none_yet p)
    | no p ↦ rw (set_out l v y (omega arith)) (le_refl _)
  ])
  | no e ↦ omega (arith, get_or-set_other l v x y none_yet e)
]

module _ (g : Given) where
  pub try_cases : (u i v : ℕ) (n : Notes) (Q : Notes → Type 0)
      → (at n.d u + length_at g.segments i < at n.d v → Q (hang_by g u i v n))
      → (at n.d v ≤ at n.d u + length_at g.segments i → Q n) → Q (try g u i v n)
  unfolding try
  try_cases u i v n Q y z = cases Q _ _ _ (λ e. y (ltb-true _ _ e)) (λ e. z (ltb-false _ _ e))

  pub lay_cases : (k v : ℕ) (n : Notes) (Q : Notes → Type 0)
      → (at g.D v < at n.d v → Q (try g (parent g.segments g.shortest v) (entry g.shortest v) v (lay g k (parent g.segments g.shortest v) n)))
      → (at n.d v ≤ at g.D v → Q n) → Q (lay g (suc k) v n)
  unfolding lay
  lay_cases k v n Q y z = cases Q _ _ _ (λ e. y (ltb-true _ _ e)) (λ e. z (ltb-false _ _ e))

  pub enter_cases : (v : ℕ) (n : Notes) (Q : Notes → Type 0)
      → ((g.p v + g.q v) * at g.D v < g.q v * at n.d v → Q (count g v (lay g g.posts v n)))
      → (g.q v * at n.d v ≤ (g.p v + g.q v) * at g.D v → Q n) → Q (enter g v n)
  unfolding enter
  enter_cases v n Q y z = cases Q _ _ _ (λ e. y (ltb-true _ _ e)) (λ e. z (ltb-false _ _ e))

  pub lay_none : (v : ℕ) (n : Notes) → lay g 0 v n ≡ n
  unfolding lay
  lay_none v n = refl

  -- NO NOTE RISES
  abbrev pub Lower : Notes → Notes → Type 0
  Lower n m = (x : ℕ) → at m.d x ≤ at n.d x

  hang_lower : (u i v : ℕ) (n : Notes) → at n.d u + length_at g.segments i ≤ at n.d v → Lower n (hang_by g u i v n)
  unfolding hang_by
  hang_lower u i v n h x = set_lower n.d v (at n.d u + length_at g.segments i) x h

  pub try_lower : (u i v : ℕ) (n : Notes) → Lower n (try g u i v n)
  try_lower u i v n = try_cases u i v n (λ m. Lower n m) (λ h. hang_lower u i v n (omega arith)) (λ h x. le_refl _)

  pub lay_lower : (k v : ℕ) (n : Notes) → Lower n (lay g k v n)
  unfolding lay
  lay_lower zero v n = λ x. le_refl _
  lay_lower (suc k) v n =
      lay_cases k v n (λ m. Lower n m)
      (λ h x.
      let u = parent g.segments g.shortest v in
      le_trans (try_lower u (entry g.shortest v) v (lay g k u n) x) (lay_lower k u n x))
      (λ h x. le_refl _)

  count_lower : (v : ℕ) (n m : Notes) → Lower n m → Lower n (count g v m)
  unfolding count
  count_lower v n m h = h

  pub enter_lower : (v : ℕ) (n : Notes) → Lower n (enter g v n)
  enter_lower v n = enter_cases v n (λ m. Lower n m) (λ h. count_lower v n (lay g g.posts v n) (lay_lower g.posts v n)) (λ h x. le_refl _)

  -- after a try v's note is at most what u gives it
  hang_note : (u i v : ℕ) (n : Notes) → v < length n.d → at (hang_by g u i v n).d v ≡ at n.d u + length_at g.segments i
  unfolding hang_by
  hang_note u i v n h = get_or-set_same n.d v (at n.d u + length_at g.segments i) none_yet h

  pub try_note : (u i v : ℕ) (n : Notes) → v < length n.d → at (try g u i v n).d v ≤ at n.d u + length_at g.segments i
  try_note u i v n h =
      try_cases u i v n (λ m. at m.d v ≤ at n.d u + length_at g.segments i) (λ z. omega (arith, hang_note u i v n h)) (λ z. z)

  -- TRYING AND LAYING COUNT NO POST
  hang_laid : (u i v : ℕ) (n : Notes) → (hang_by g u i v n).laid ≡ n.laid
  unfolding hang_by
  hang_laid u i v n = refl

  pub try_laid : (u i v : ℕ) (n : Notes) → (try g u i v n).laid ≡ n.laid
  try_laid u i v n = try_cases u i v n (λ m. m.laid ≡ n.laid) (λ z. hang_laid u i v n) (λ z. refl)

  pub lay_laid : (k v : ℕ) (n : Notes) → (lay g k v n).laid ≡ n.laid
  unfolding lay
  lay_laid zero v n = refl
  lay_laid (suc k) v n =
      lay_cases k v n (λ m. m.laid ≡ n.laid)
      (λ h.
      let u = parent g.segments g.shortest v in
      try_laid u (entry g.shortest v) v (lay g k u n) ∙ lay_laid k u n)
      (λ h. refl)

  -- counting touches neither notes nor entries
  pub count_d : (v : ℕ) (n : Notes) → (count g v n).d ≡ n.d
  unfolding count
  count_d v n = refl

  pub count_entries : (v : ℕ) (n : Notes) → (count g v n).entries ≡ n.entries
  unfolding count
  count_entries v n = refl

  pub count_laid : (v : ℕ) (n : Notes) → (count g v n).laid ≡ v ∷ n.laid
  unfolding count
  count_laid v n = refl
