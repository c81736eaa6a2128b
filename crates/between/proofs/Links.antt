-- The links of the children (specs/Children) as they are made: one look at a segment links the child that hangs by it, whichever end that is
-- (`indexed_turn`). Nothing is asked of the tree walked. Relies on net's laws of `child`.
use mathlib.Core.Path.{◌≡◌, refl, sym, ap, ◌∙◌}
use mathlib.Core.Bool.{Bool, true, false, not, cond}
use mathlib.Core.Logic.{◌⊎◌, inl, inr}
use mathlib.Core.List.{List}
use Prim.Native.Nat.{ℕ, suc, ◌-◌, ◌≤◌, ◌<◌}
use native.Mathlib.Omega.{arith}
use native.Mathlib.Decide.{dec_lt, ℕ_discrete}
use lib.Dec.{eqb}
use lib.ListN.{length, get_or, set, length-set}
use lib.Seq.{get_or-set_same, get_or-set_other}
use borrow.Author.Tests.{eqb-true, eqb-false, eq-eqb, ne_eqb}
use Rattle.net.specs.Words.{only, no_segment}
use Rattle.net.specs.Net.{nth_segment, touches, other}
use Rattle.net.specs.Trees.{entry}
use Rattle.net.specs.Walk.{Given, child}
use Rattle.net.proofs.Words.{clash, or_left, or_right}
use Rattle.net.proofs.Routes.{leads_back}
use Rattle.net.proofs.Tour.{child_leads, child_entry}
use Rattle.between.specs.Given.{EndsIn}
use Rattle.between.specs.Children.{Next, found, nothing, Linked, Indexed, Links, child_first, adopted, adopted_both}

-- WHAT THE CODE DOES ON ITS WAYS
pub adopt_hit : (i v c : ℕ) (walked f a f' a' : List ℕ) (x y u next w w' u' : ℕ) → x ≡ c → y ≡ entry walked x → u ≡ y → u ≡ i → w ≡ v → next ≡ entry f w
    → w' ≡ v → f' ≡ set f w' c → u' ≡ c → a' ≡ set a u' next → (f', a') ≡ adopted i v c walked (f, a)
unfolding adopted
adopt_hit i v c walked f a f' a' x y u next w w' u' ex ey eu ei ew en ew' ef eu' ea =
    let t : entry walked c ≡ i = ap (entry walked) (sym ex) ∙ sym ey ∙ sym eu ∙ ei in
    let s : next ≡ entry f v = en ∙ ap (entry f) ew in
    rw (eq-eqb _ _ t, ef, ea, ew', eu', s)

pub adopt_miss : (i v c : ℕ) (walked f a : List ℕ) (x y u : ℕ) → x ≡ c → y ≡ entry walked x → u ≡ y → (u ≡ i → ⊥) → (f, a) ≡ adopted i v c walked (f, a)
unfolding adopted
adopt_miss i v c walked f a x y u ex ey eu ei = rw (ne_eqb (entry walked c) i (λ z. ei (eu ∙ ey ∙ ap (entry walked) ex ∙ z)))

pub both_two : (i x y : ℕ) (walked : List ℕ) (l₀ l₁ l₂ : Links) → l₁ ≡ adopted i x y walked l₀ → (x ≡ y → ⊥) → l₂ ≡ adopted i y x walked l₁ → l₂ ≡ adopted_both i x y walked l₀
unfolding adopted_both
both_two i x y walked l₀ l₁ l₂ e₁ ne e₂ = rw (ne_eqb x y ne, ← e₁) e₂

pub both_one : (i x y : ℕ) (walked : List ℕ) (l₀ l₁ : Links) → l₁ ≡ adopted i x y walked l₀ → x ≡ y → l₁ ≡ adopted_both i x y walked l₀
unfolding adopted_both
both_one i x y walked l₀ l₁ e₁ e = rw (eq-eqb x y e) e₁

-- NEXT CHILDREN
-- the links of x are made from segment i on, the others as before
abbrev lower : (ℕ → ℕ) → ℕ → ℕ → ℕ → ℕ
lower done x i v = cond (eqb v x) i (done v)

module _ (g : Given) (n : ℕ) where
  next_here : (x i y : ℕ) → i < length g.segments → child g x i ≡ true → other g.segments i x ≡ y → y < n → Next g n x i y
  next_here x i y h c o hy =
      let e : entry g.walked y ≡ i = ap (entry g.walked) (sym o) ∙ child_entry g x i c in
      found (record { from = omega (arith, e); is_segment = omega (arith, e); is_child = rw e c; leads = rw e o; is_post = hy; none_between = λ k a b. absurd (omega (arith, e)) })

  next_past : (x i c : ℕ) → child g x i ≡ false → Next g n x (suc i) c → Next g n x i c
  next_past x i c h (found f) =
      found (record {
        from = let z = f.from in omega arith;
        is_segment = f.is_segment;
        is_child = f.is_child;
        leads = f.leads;
        is_post = f.is_post;
        none_between = λ k a b. elim (dec_lt i k) [ yes p ↦ f.none_between k p b | no p ↦ let e : k ≡ i = omega arith in rw e h ];
      })
  next_past x i c h (nothing e f) = nothing e (λ k a b. elim (dec_lt i k) [ yes p ↦ f k p b | no p ↦ let z : k ≡ i = omega arith in rw z h ])

  -- ONE END ADOPTS THE OTHER
  module _ (done : ℕ → ℕ) (f a : List ℕ) (l : Linked g n done f a) (x y i : ℕ) (hx : x < n) (hy : y < n) (hi : i < length g.segments) (o : other g.segments i x ≡ y) (dx : done x ≡ suc i) where
    linked_hit : n ≤ length f → n ≤ length a → child g x i ≡ true → Linked g n (lower done x i) (set f x y) (set a y (entry f x))
    linked_hit lf la c = record { firsts = firsts; afters = afters }
      where
        firsts : (v : ℕ) → v < n → Next g n v (lower done x i v) (entry (set f x y) v)
        firsts v hv = elim (ℕ_discrete v x) [
          | yes e ↦ rw (e, eq-eqb x x refl, get_or-set_same f x y no_segment (omega arith)) (next_here x i y hi c o hy)
          | no ne ↦ rw (ne_eqb v x ne, get_or-set_other f x v y no_segment ne) (l.firsts v hv)
        ]

        one_parent : (v k : ℕ) → k < length g.segments → child g v k ≡ true → other g.segments k v ≡ y → (k ≡ i) × (v ≡ x)
        one_parent v k hk ck e =
            let ek : k ≡ i = sym (child_entry g v k ck) ∙ ap (entry g.walked) (e ∙ sym o) ∙ child_entry g x i c in
            let bv : other g.segments k y ≡ v = ap (other g.segments k) (sym e) ∙ (leads_back g.segments (child_leads g v k hk ck)).across in
            let bx : other g.segments i y ≡ x = ap (other g.segments i) (sym o) ∙ (leads_back g.segments (child_leads g x i hi c)).across in
            (ek, sym bv ∙ ap (λ (j : ℕ). other g.segments j y) ek ∙ bx)

        still : (v k : ℕ) → lower done x i v ≤ k → (other g.segments k v ≡ y → ⊥) → done v ≤ k
        still v k d ne = elim (ℕ_discrete v x) [
          | yes e ↦
              let d' : i ≤ k = rw (e, eq-eqb x x refl) at d in
              let nk : k ≡ i → ⊥ = λ z. ne (ap (λ (j : ℕ). other g.segments j v) z ∙ ap (other g.segments i) e ∙ o) in
              omega (arith, ap done e, dx)
          | no nv ↦ rw (ne_eqb v x nv) at d
        ]

        afters : (v k : ℕ) → v < n → lower done x i v ≤ k → k < length g.segments → child g v k ≡ true → Next g n v (suc k) (entry (set a y (entry f x)) (other g.segments k v))
        afters v k hv d hk ck = elim (ℕ_discrete (other g.segments k v) y) [
          | yes e ↦
              let p = one_parent v k hk ck e in
              rw (e, get_or-set_same a y (entry f x) no_segment (omega arith), p.1, p.0, ← dx) (l.firsts x hx)
          | no ne ↦ rw (get_or-set_other a y (other g.segments k v) (entry f x) no_segment ne) (l.afters v k hv (still v k d ne) hk ck)
        ]

    linked_miss : child g x i ≡ false → Linked g n (lower done x i) f a
    linked_miss c = record { firsts = firsts; afters = afters }
      where
        firsts : (v : ℕ) → v < n → Next g n v (lower done x i v) (entry f v)
        firsts v hv = elim (ℕ_discrete v x) [
          | yes e ↦ rw (e, eq-eqb x x refl) (next_past x i (entry f x) c (rw dx at (l.firsts x hx)))
          | no ne ↦ rw (ne_eqb v x ne) (l.firsts v hv)
        ]

        still : (v k : ℕ) → lower done x i v ≤ k → child g v k ≡ true → done v ≤ k
        still v k d ck = elim (ℕ_discrete v x) [
          | yes e ↦
              let d' : i ≤ k = rw (e, eq-eqb x x refl) at d in
              let nk : k ≡ i → ⊥ = λ z. clash (rw (e, z) at ck) c in
              omega (arith, ap done e, dx)
          | no nv ↦ rw (ne_eqb v x nv) at d
        ]

        afters : (v k : ℕ) → v < n → lower done x i v ≤ k → k < length g.segments → child g v k ≡ true → Next g n v (suc k) (entry a (other g.segments k v))
        afters v k hv d hk ck = l.afters v k hv (still v k d ck) hk ck

    linked_adopted : n ≤ length f → n ≤ length a → touches g.segments i x ≡ true → Linked g n (lower done x i) (adopted i x y g.walked (f, a)).0 (adopted i x y g.walked (f, a)).1
    unfolding adopted
    linked_adopted lf la t = go (eqb (entry g.walked y) i) refl
      where
        go : (b : Bool) → eqb (entry g.walked y) i ≡ b → Linked g n (lower done x i) (only {S = Links} b (child_first x y) (f, a)).0 (only {S = Links} b (child_first x y) (f, a)).1
        go true e = linked_hit lf la (rw (t, o, e))
        go false e = linked_miss (rw (t, o, e))

  -- the links that a look at segment i leaves as they were are made from i on too
  linked_all : (done : ℕ → ℕ) (f a : List ℕ) (i : ℕ) → Linked g n done f a → ((v : ℕ) → v < n → (done v ≡ i) ⊎ ((done v ≡ suc i) × (child g v i ≡ false))) → Linked g n (λ _. i) f a
  linked_all done f a i l each = record { firsts = λ v hv. first v hv (each v hv); afters = λ v k hv d hk ck. l.afters v k hv (still v k d ck (each v hv)) hk ck }
    where
      first : (v : ℕ) → v < n → (done v ≡ i) ⊎ ((done v ≡ suc i) × (child g v i ≡ false)) → Next g n v i (entry f v)
      first v hv (inl e) = rw e at (l.firsts v hv)
      first v hv (inr (e, c)) = next_past v i (entry f v) c (rw e at (l.firsts v hv))

      still : (v k : ℕ) → i ≤ k → child g v k ≡ true → (done v ≡ i) ⊎ ((done v ≡ suc i) × (child g v i ≡ false)) → done v ≤ k
      still v k d ck (inl e) = omega arith
      still v k d ck (inr (e, c)) = let nk : k ≡ i → ⊥ = λ z. clash (rw z at ck) c in omega arith

adopted_long : (i x y : ℕ) (walked f a : List ℕ) → (length (adopted i x y walked (f, a)).0 ≡ length f) × (length (adopted i x y walked (f, a)).1 ≡ length a)
unfolding adopted
adopted_long i x y walked f a = go (eqb (entry walked y) i)
  where
    go : (b : Bool) → (length (only {S = Links} b (child_first x y) (f, a)).0 ≡ length f) × (length (only {S = Links} b (child_first x y) (f, a)).1 ≡ length a)
    go true = (length-set f x y, length-set a y (entry f x))
    go false = (refl, refl)

-- BOTH ENDS
module _ (g : Given) (n i x y : ℕ) (hi : i < length g.segments) (ex : (nth_segment g.segments i).a ≡ x) (ey : (nth_segment g.segments i).b ≡ y) (hx : x < n) (hy : y < n) where
  a_touches : touches g.segments i x ≡ true
  a_touches = or_left (eqb (nth_segment g.segments i).a x) (eqb (nth_segment g.segments i).b x) (eq-eqb _ x ex)

  b_touches : touches g.segments i y ≡ true
  b_touches = or_right (eqb (nth_segment g.segments i).a y) (eqb (nth_segment g.segments i).b y) (eq-eqb _ y ey)

  from_a : other g.segments i x ≡ y
  from_a = rw (eq-eqb _ x ex, ey)

  from_b : (x ≡ y → ⊥) → other g.segments i y ≡ x
  from_b ne = rw (ex, ne_eqb x y ne)

  third : (v : ℕ) → (v ≡ x → ⊥) → (v ≡ y → ⊥) → child g v i ≡ false
  third v nx ny = rw (ex, ey, ne_eqb x v (λ e. nx (sym e)), ne_eqb y v (λ e. ny (sym e)))

  linked_both : (f a : List ℕ) → n ≤ length f → n ≤ length a → Linked g n (λ _. suc i) f a → Linked g n (λ _. i) (adopted_both i x y g.walked (f, a)).0 (adopted_both i x y g.walked (f, a)).1
  unfolding adopted_both
  linked_both f a lf la l = go (eqb x y) refl
    where
      s : Links
      s = adopted i x y g.walked (f, a)

      one : Linked g n (lower (λ _. suc i) x i) (adopted i x y g.walked (f, a)).0 (adopted i x y g.walked (f, a)).1
      one = linked_adopted g n (λ _. suc i) f a l x y i hx hy hi from_a refl lf la a_touches

      kept : (length (adopted i x y g.walked (f, a)).0 ≡ length f) × (length (adopted i x y g.walked (f, a)).1 ≡ length a)
      kept = adopted_long i x y g.walked f a

      go : (b : Bool) → eqb x y ≡ b
          → Linked g n (λ _. i) (only {S = Links} (not b) (adopted i y x g.walked) (adopted i x y g.walked (f, a))).0 (only {S = Links} (not b) (adopted i y x g.walked) (adopted i x y g.walked (f, a))).1
      go true e =
          linked_all g n (lower (λ _. suc i) x i) _ _ i one
          (λ v hv. elim (ℕ_discrete v x) [
            | yes z ↦ inl (rw (eq-eqb v x z))
            | no z ↦ inr (rw (ne_eqb v x z), third v z (λ w. z (w ∙ sym (eqb-true x y e))))
          ])
      go false e =
          let ne : x ≡ y → ⊥ = eqb-false x y e in
          let two =
          linked_adopted g n (lower (λ _. suc i) x i) (adopted i x y g.walked (f, a)).0 (adopted i x y g.walked (f, a)).1 one y x i hy hx hi (from_b ne)
          (rw (ne_eqb y x (λ z. ne (sym z)))) (omega (arith, kept.0)) (omega (arith, kept.1)) b_touches in
          linked_all g n (lower (lower (λ _. suc i) x i) y i) _ _ i two
          (λ v hv. elim (ℕ_discrete v y) [
            | yes z ↦ inl (rw (eq-eqb v y z))
            | no z ↦ elim (ℕ_discrete v x) [
              | yes w ↦ inl (rw (ne_eqb v y z, eq-eqb v x w))
              | no w ↦ inr (rw (ne_eqb v y z, ne_eqb v x w), third v w z)
            ]
          ])

-- THE INDEX
pub indexed_turn : {a b walked first after : List ℕ} {n j : ℕ} → Indexed a b walked n j first after → EndsIn n a b → 0 < j → j ≤ length a → n ≤ length first → n ≤ length after
    → (x y : ℕ) → x ≡ get_or a (j - 1) 0 → y ≡ get_or b (j - 1) 0 → (first' after' : List ℕ) → (first', after') ≡ adopted_both (j - 1) x y walked (first, after)
    → Indexed a b walked n (j - 1) first' after'
indexed_turn {a} {b} {walked} {first} {after} {n} {j} ix ins h₀ hj lf la x y ex ey first' after' e =
    record {
      links = λ g lengths l ew.
          let z : j ≡ suc (j - 1) = omega arith in
          let k = rw z at (ix.links g lengths l ew) in
          let hx : x < n = rw ex (ins.a_in (j - 1) (omega arith)) in
          let hy : y < n = rw ey (ins.b_in (j - 1) (omega arith)) in
          let two = linked_both g n (j - 1) x y (omega (arith, l.count)) (l.a_is (j - 1) ∙ sym ex) (l.b_is (j - 1) ∙ sym ey) hx hy first after lf la k in
          let e' : (first', after') ≡ adopted_both (j - 1) x y g.walked (first, after) = e ∙ ap (λ (w : List ℕ). adopted_both (j - 1) x y w (first, after)) (sym ew) in
          rw (← e') at two;
    }
