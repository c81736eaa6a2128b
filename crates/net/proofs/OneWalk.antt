-- The rules of the walk (WalkRules) give one outcome, over whatever the walk is given: two derivations from the same notes end in the same notes, for a try,
-- for laying, for entering, for a walk (`one_walk`), and from the start (`one_outcome`). Nothing is asked of the tree walked, of the shortest tree or of D.
use mathlib.Core.Path.{◌≡◌, refl, sym, ap, ap₂, ◌∙◌}
use mathlib.Core.List.{List, [], ◌∷◌}
use Prim.Native.Nat.{ℕ, ◌≤◌, ◌<◌}
use native.Mathlib.Omega.{arith}
use native.Mathlib.Decide.{ℕ_discrete}
use lib.ListN.{length}
use lib.Seq.{ext_get_or}
use Rattle.net.specs.Words.{no_segment}
use Rattle.net.specs.Net.{Leads}
use Rattle.net.specs.Trees.{none_yet}
use Rattle.net.specs.Walk.{Notes, Given}
use Rattle.net.specs.WalkRules.{Starts, Becomes, Among, Rising, Tries, Lays, Enters, Children, Walks, WalksEach, WalkGives}
use Rattle.net.specs.WalkRules as R
use Rattle.net.proofs.Routes.{leads_back}

-- notes that say the same are one
same_notes : (n m : Notes) → n.d ≡ m.d → n.entries ≡ m.entries → n.laid ≡ m.laid → n ≡ m
same_notes n m e f h = λ i. record { d = e i; entries = f i; laid = h i }

starts_same : (posts s : ℕ) (n m : Notes) → Starts posts s n → Starts posts s m → n ≡ m
starts_same posts s n m a b =
    same_notes n m
    (ext_get_or none_yet n.d m.d (a.note_each ∙ sym b.note_each) (λ v h. elim (ℕ_discrete v s) [
      | yes e ↦ rw e (a.source_note ∙ sym b.source_note)
      | no e ↦ a.elsewhere v e ∙ sym (b.elsewhere v e)
    ]))
    (ext_get_or no_segment n.entries m.entries (a.entry_each ∙ sym b.entry_each) (λ v h. a.none_hangs v ∙ sym (b.none_hangs v)))
    (a.none_laid ∙ sym b.none_laid)

becomes_same : {none v x : ℕ} {l a b : List ℕ} → Becomes none v x l a → Becomes none v x l b → a ≡ b
becomes_same {none} {v} {x} {l} {a} {b} p q =
    ext_get_or none a b (p.as_long ∙ sym q.as_long) (λ u h. elim (ℕ_discrete u v) [
      | yes e ↦ rw e (p.new ∙ sym q.new)
      | no e ↦ p.others u e ∙ sym (q.others u e)
    ])

-- two rising lists with the same members are one
pub not_among_none : {i : ℕ} {is : List ℕ} → Among i is → is ≡ [] → ⊥
not_among_none R.first e = omega (arith, ap (λ (l : List ℕ). length l) e)
not_among_none (R.later m) e = omega (arith, ap (λ (l : List ℕ). length l) e)

rising_low : {low i : ℕ} {is : List ℕ} → Rising low is → Among i is → low ≤ i
rising_low (R.none {low = low}) m = elim m [ ]
rising_low (R.next h r) R.first = h
rising_low (R.next h r) (R.later m) = let z = rising_low r m in omega arith

above_first : {i j : ℕ} {is : List ℕ} → j < i → Among i (j ∷ is) → Among i is
above_first h R.first = absurd (omega arith)
above_first h (R.later m) = m

rising_same : {low : ℕ} {is js : List ℕ} → Rising low is → Rising low js → ((i : ℕ) → Among i is → Among i js) → ((i : ℕ) → Among i js → Among i is) → is ≡ js
rising_same R.none R.none f h = refl
rising_same R.none (R.next {i = j} k s) f h = absurd (not_among_none (h j R.first) refl)
rising_same (R.next {i = i} k r) R.none f h = absurd (not_among_none (f i R.first) refl)
rising_same (R.next {i = i} {is = is} k r) (R.next {i = j} {is = js} l s) f h =
    let a : j ≤ i = rising_low (R.next {low = j} (omega arith) s) (f i R.first) in
    let b : i ≤ j = rising_low (R.next {low = i} (omega arith) r) (h j R.first) in
    let e : i ≡ j = omega arith in
    ap₂ (λ (x : ℕ) (l : List ℕ). x ∷ l) e
    (rising_same r (rw e s)
    (λ x m. above_first {i = x} {j = j} (let z = rising_low r m in omega arith) (f x (R.later m)))
    (λ x m. above_first {i = x} {j = i} (let z = rising_low s m in omega arith) (h x (R.later m))))

module _ (g : Given) where
  tries_same : {u i v : ℕ} {n a b : Notes} → Tries g u i v n a → Tries g u i v n b → a ≡ b
  tries_same {a = a} {b = b} (R.less h x) (R.less k y) = same_notes a b (becomes_same x.note y.note) (becomes_same x.hangs y.hangs) (x.same_laid ∙ sym y.same_laid)
  tries_same (R.less h x) (R.otherwise k) = absurd (omega arith)
  tries_same (R.otherwise h) (R.less k y) = absurd (omega arith)
  tries_same (R.otherwise h) (R.otherwise k) = refl

  -- a segment leads to v from one post only
  one_parent : {i u w v : ℕ} → Leads g.segments i u v → Leads g.segments i w v → u ≡ w
  one_parent l m = sym (leads_back g.segments l).across ∙ (leads_back g.segments m).across

  lays_same : {v : ℕ} {n a b : Notes} → Lays g v n a → Lays g v n b → a ≡ b
  lays_same (R.greater h l x t) (R.greater k m y r) =
      let e = one_parent l m in
      let f = lays_same x (rw (← e) at y) in
      tries_same t (rw (← e, ← f) at r)
  lays_same (R.greater h l x t) (R.if_not k) = absurd (omega arith)
  lays_same (R.if_not h) (R.greater k m y r) = absurd (omega arith)
  lays_same (R.if_not h) (R.if_not k) = refl

  enters_same : {v : ℕ} {n a b : Notes} → Enters g v n a → Enters g v n b → a ≡ b
  enters_same {v = v} {a = a} {b = b} (R.greater h x c) (R.greater k y d) =
      let e = lays_same x y in
      same_notes a b (c.same_notes ∙ ap (λ (m : Notes). m.d) e ∙ sym d.same_notes) (c.same_entries ∙ ap (λ (m : Notes). m.entries) e ∙ sym d.same_entries)
      (c.one_more ∙ ap (λ (m : Notes). v ∷ m.laid) e ∙ sym d.one_more)
  enters_same (R.greater h x c) (R.if_not k) = absurd (omega arith)
  enters_same (R.if_not h) (R.greater k y d) = absurd (omega arith)
  enters_same (R.if_not h) (R.if_not k) = refl

  children_same : {v : ℕ} {is js : List ℕ} → Children g v is → Children g v js → is ≡ js
  children_same a b =
      rising_same a.rising b.rising (λ i m. let c = a.each_one i m in b.all i c.0 c.1) (λ i m. let c = b.each_one i m in a.all i c.0 c.1)

  -- ONE WALK
  mutual
    pub one_walk : {v : ℕ} {n a b : Notes} → Walks g v n a → Walks g v n b → a ≡ b
    one_walk (R.walks x c w) (R.walks y d u) = one_each w (rw (← children_same c d, ← enters_same x y) at u)

    one_each : {v : ℕ} {is : List ℕ} {n a b : Notes} → WalksEach g v is n a → WalksEach g v is n b → a ≡ b
    one_each R.no_more R.no_more = refl
    one_each (R.next c t w r u) (R.next d t₂ w₂ r₂ u₂) =
        let e = sym c.leads.across ∙ d.leads.across in
        let f = tries_same t (rw (← e) at t₂) in
        let h = one_walk w (rw (← e, ← f) at w₂) in
        let k = tries_same r (rw (← e, ← h) at r₂) in
        one_each u (rw (← k) at u₂)

  -- from the start
  pub one_outcome : {s : ℕ} {n m : Notes} → WalkGives g s n → WalkGives g s m → n ≡ m
  one_outcome {s} a b = one_walk a.walked (rw (← starts_same g.posts s a.start b.start a.starts b.starts) at b.walked)
