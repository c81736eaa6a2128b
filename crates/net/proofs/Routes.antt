-- Laws of routes and chains: they run both ways, can be lengthened and joined, a segment can be replaced by a chain, and over n posts fewer than n segments are enough.
use mathlib.Core.Path.{◌≡◌, refl, sym, ap, ◌∙◌}
use mathlib.Core.Bool.{Bool, true, false, not, ◌&&◌, ◌||◌, cond}
use mathlib.Core.List.{List, [], ◌∷◌, ◌++◌}
use Prim.Native.Nat.{ℕ, zero, suc, ◌+◌, ◌*◌, ◌≤◌, ◌<◌}
use native.Mathlib.Omega.{arith}
use native.Mathlib.Nat.{suc-mul}
use native.Mathlib.Decide.{ℕ_discrete}
use lib.ListN.{length, get_or, set}
use lib.Seq.{get_or-set_other}
use mathlib.Core.Logic.{◌⊎◌, inl, inr}
use lib.Dec.{eqb}
use borrow.Author.Tests.{eqb-true, eq-eqb, ne_eqb}
use Rattle.net.proofs.Words.{and_i, and_left, and_right, or_right, not_true, so_false, true_or_false, clash}
use Rattle.net.specs.Net.{nth_segment, touches, other, Leads, Route, here, by, Chain, weigh}
use Rattle.net.specs.declared.Segment.{Segment}

module _ (segs : List Segment) where
  flip : (a b u v : ℕ) (ea : Bool) → eqb a u ≡ ea → ea || eqb b u ≡ true → cond ea b a ≡ v → (eqb a v || eqb b v ≡ true) × (cond (eqb a v) b a ≡ u)
  flip a b u v true p q r = (or_right (eqb a v) (eqb b v) (eq-eqb b v r), pick (eqb a v) refl)
    where
      pick : (x : Bool) → eqb a v ≡ x → cond x b a ≡ u
      pick true e = r ∙ sym (eqb-true a v e) ∙ eqb-true a u p
      pick false e = eqb-true a u p
  flip a b u v false p q r = let e : eqb a v ≡ true = eq-eqb a v r in (rw e, rw e (eqb-true b u q))

  pub leads_back : {i u v : ℕ} → Leads segs i u v → Leads segs i v u
  leads_back {i} {u} {v} l =
      let z = flip (nth_segment segs i).a (nth_segment segs i).b u v (eqb (nth_segment segs i).a u) refl l.ends l.across in
      record { is_segment = l.is_segment; ends = z.0; across = z.1 }

  -- a segment that leads from y to z touches no third post
  third : (a b y z x : ℕ) (ea : Bool) → eqb a y ≡ ea → ea || eqb b y ≡ true → cond ea b a ≡ z → (x ≡ y → ⊥) → (x ≡ z → ⊥) → eqb a x || eqb b x ≡ false
  third a b y z x true p q r ny nz =
      rw (ne_eqb a x (λ e. ny (sym e ∙ eqb-true a y p)), ne_eqb b x (λ e. nz (sym e ∙ r)))
  third a b y z x false p q r ny nz =
      rw (ne_eqb a x (λ e. nz (sym e ∙ r)), ne_eqb b x (λ e. ny (sym e ∙ eqb-true b y q)))

  pub no_third : {i y z : ℕ} (x : ℕ) → Leads segs i y z → (x ≡ y → ⊥) → (x ≡ z → ⊥) → touches segs i x ≡ false
  no_third {i} {y} {z} x l ny nz =
      third (nth_segment segs i).a (nth_segment segs i).b y z x (eqb (nth_segment segs i).a y) refl l.ends l.across ny nz

  pub snoc : {ok : ℕ → Bool} {u v x i : ℕ} {is : List ℕ} → Route segs ok u is v → Leads segs i v x → ok i ≡ true → Route segs ok u (is ++ (i ∷ [])) x
  snoc here l o = by l o here
  snoc (by k p r) l o = by k p (snoc r l o)

  pub weigh_snoc : (w : ℕ → ℕ) (is : List ℕ) (i : ℕ) → weigh w (is ++ (i ∷ [])) ≡ weigh w is + w i
  weigh_snoc w [] i = omega arith
  weigh_snoc w (j ∷ is) i = omega (arith, weigh_snoc w is i)

  pub weaken : {ok ok' : ℕ → Bool} {u v : ℕ} {is : List ℕ} → ((i : ℕ) → ok i ≡ true → ok' i ≡ true) → Route segs ok u is v → Route segs ok' u is v
  weaken f here = here
  weaken f (by {i = i} l o r) = by l (f i o) (weaken f r)

-- the segments that pass the test and do not touch u
abbrev pub off : List Segment → (ℕ → Bool) → ℕ → ℕ → Bool
off segs ok u i = ok i && not (touches segs i u)

-- where a route from y to v was last at u: never; at its end; or before the segment i, from where it goes on without u
pub data LastAt (segs : List Segment) (ok : ℕ → Bool) (w : ℕ → ℕ) (u y v : ℕ) (is : List ℕ) : Type 0 where
  never : (y ≡ u → ⊥) → Route segs (off segs ok u) y is v → LastAt segs ok w u y v is
  end : v ≡ u → LastAt segs ok w u y v is
  then : {i x : ℕ} {js : List ℕ} → Leads segs i u x → (x ≡ u → ⊥) → ok i ≡ true → Route segs (off segs ok u) x js v → w i + weigh w js ≤ weigh w is → LastAt segs ok w u y v is

module _ (segs : List Segment) (ok : ℕ → Bool) (w : ℕ → ℕ) (u : ℕ) where
  at_end : (y : ℕ) → LastAt segs ok w u y y []
  at_end y = elim (ℕ_discrete y u) [ yes e ↦ end e | no e ↦ never e here ]

  at_step : {i y z v : ℕ} {is : List ℕ} → Leads segs i y z → ok i ≡ true → LastAt segs ok w u z v is → LastAt segs ok w u y v (i ∷ is)
  at_step {i} {y} {z} {v} {is} l o (never n r) = elim (ℕ_discrete y u) [
    | yes e ↦ then (rw e at l) n o r (omega arith)
    | no e ↦ never e (by l (and_i o (rw (no_third segs u l (λ k. e (sym k)) (λ k. n (sym k))) refl)) r)
  ]
  at_step l o (end e) = end e
  at_step l o (then k n p r h) = then k n p r (omega arith)

  pub last_at : {y v : ℕ} {is : List ℕ} → Route segs ok y is v → LastAt segs ok w u y v is
  last_at {y} here = at_end y
  last_at (by l o r) = at_step l o (last_at r)

-- how many posts of a list are marked
abbrev pub marked : List Bool → ℕ
marked [] = 0
marked (true ∷ bs) = suc (marked bs)
marked (false ∷ bs) = marked bs

pub marked_drop : (bs : List Bool) (u : ℕ) → get_or bs u false ≡ true → marked bs ≡ suc (marked (set bs u false))
marked_drop [] u e = absurd (let z : ◌≡◌ {A = ℕ} 0 1 = cc in omega arith)
marked_drop (true ∷ bs) zero e = refl
marked_drop (false ∷ bs) zero e = absurd (let z : ◌≡◌ {A = ℕ} 0 1 = cc in omega arith)
marked_drop (true ∷ bs) (suc u) e = ap suc (marked_drop bs u e)
marked_drop (false ∷ bs) (suc u) e = marked_drop bs u e

-- a route from u to v over the same segments, of fewer than c segments and no heavier
pub record Short (segs : List Segment) (ok : ℕ → Bool) (w : ℕ → ℕ) (u v c : ℕ) (is : List ℕ) : Type 0 where
  pub js : List ℕ
  pub route : Route segs ok u js v
  pub fewer : length js < c
  pub lighter : weigh w js ≤ weigh w is

-- every segment that passes the test has its ends at marked posts
abbrev pub Within : List Segment → (ℕ → Bool) → List Bool → Type 0
Within segs ok bs = (i x : ℕ) → ok i ≡ true → i < length segs → touches segs i x ≡ true → get_or bs x false ≡ true

module _ (segs : List Segment) (w : ℕ → ℕ) where
  within_off : (ok : ℕ → Bool) (bs : List Bool) (u : ℕ) → Within segs ok bs → Within segs (off segs ok u) (set bs u false)
  within_off ok bs u h i x o k t =
      let ne : x ≡ u → ⊥ = λ e. clash (rw e at t) (not_true (touches segs i u) (and_right (ok i) (not (touches segs i u)) o)) in
      get_or-set_other bs u x false false ne ∙ h i x (and_left (ok i) (not (touches segs i u)) o) k t

  cut : (c : ℕ) (ok : ℕ → Bool) (bs : List Bool) → Within segs ok bs → {u v : ℕ} {is : List ℕ}
      → ((x : ℕ) (js : List ℕ) → get_or (set bs u false) x false ≡ true → Route segs (off segs ok u) x js v → Short segs (off segs ok u) w x v c js)
      → LastAt segs ok w u u v is → Short segs ok w u v (suc c) is
  cut c ok bs h {u} {v} {is} ih (never n s) = absurd (n refl)
  cut c ok bs h {u} {v} {is} ih (end e) = rw e (record { js = []; route = here; fewer = omega arith; lighter = omega arith })
  cut c ok bs h {u} {v} {is} ih (then {i = i} {x = x} {js = js} l n o s k) =
      let z = ih x js (get_or-set_other bs u x false false n ∙ h i x o l.is_segment (leads_back segs l).ends) s in
      record {
        js = i ∷ z.js;
        route = by l o (weaken segs (λ j. and_left (ok j) (not (touches segs j u))) z.route);
        fewer = omega (arith, z.fewer);
        lighter = omega (arith, z.lighter);
      }

  -- over c posts, fewer than c segments are enough
  pub shorten : (c : ℕ) (ok : ℕ → Bool) (bs : List Bool) → marked bs ≡ c → Within segs ok bs
      → {u v : ℕ} {is : List ℕ} → get_or bs u false ≡ true → Route segs ok u is v → Short segs ok w u v c is
  shorten zero ok bs m h {u} g r = absurd (omega (arith, marked_drop bs u g))
  shorten (suc c) ok bs m h {u} {v} {is} g r =
      cut c ok bs h (λ x js. shorten c (off segs ok u) (set bs u false) (omega (arith, marked_drop bs u g)) (within_off ok bs u h)) (last_at segs ok w u r)

-- CHAINS
module _ (segs : List Segment) where
  pub stay : {ok : ℕ → Bool} {u : ℕ} → Chain segs ok u u
  stay = record { is = []; route = here }

  join_routes : {ok : ℕ → Bool} {u v x : ℕ} {is js : List ℕ} → Route segs ok u is v → Route segs ok v js x → Route segs ok u (is ++ js) x
  join_routes here r = r
  join_routes (by l o k) r = by l o (join_routes k r)

  pub join : {ok : ℕ → Bool} {u v x : ℕ} → Chain segs ok u v → Chain segs ok v x → Chain segs ok u x
  join a b = record { is = a.is ++ b.is; route = join_routes a.route b.route }

  pub along : {ok : ℕ → Bool} {i u v : ℕ} → Leads segs i u v → ok i ≡ true → Chain segs ok u v
  along {i = i} l o = record { is = i ∷ []; route = by l o here }

  -- each segment replaced by a chain
  pub replaced : {ok ok' : ℕ → Bool} → ((i u v : ℕ) → Leads segs i u v → ok i ≡ true → Chain segs ok' u v) → {u v : ℕ} → Chain segs ok u v → Chain segs ok' u v
  replaced {ok} {ok'} f c = go c.route
    where
      go : {u v : ℕ} {is : List ℕ} → Route segs ok u is v → Chain segs ok' u v
      go here = stay
      go (by {u = u} {v = v} {i = i} l o r) = join (f i u v l o) (go r)

  back_route : {ok : ℕ → Bool} {u v : ℕ} {is : List ℕ} → Route segs ok u is v → Chain segs ok v u
  back_route here = stay
  back_route (by l o r) = join (back_route r) (along (leads_back segs l) o)

  pub back : {ok : ℕ → Bool} {u v : ℕ} → Chain segs ok u v → Chain segs ok v u
  back c = back_route c.route

  -- a segment leads from its first end to its second
  pub ends_lead : (i : ℕ) → i < length segs → Leads segs i (nth_segment segs i).a (nth_segment segs i).b
  ends_lead i h =
      let e = eq-eqb (nth_segment segs i).a (nth_segment segs i).a refl in
      record { is_segment = h; ends = rw e; across = rw e }

  -- a segment leads from one of its ends to the other
  pub leads_ends : {i u v : ℕ} → Leads segs i u v
      → ((u ≡ (nth_segment segs i).a) × (v ≡ (nth_segment segs i).b)) ⊎ ((u ≡ (nth_segment segs i).b) × (v ≡ (nth_segment segs i).a))
  leads_ends {i} {u} {v} l = go (nth_segment segs i).a (nth_segment segs i).b (eqb (nth_segment segs i).a u) refl l.ends l.across
    where
      go : (a b : ℕ) (t : Bool) → eqb a u ≡ t → t || eqb b u ≡ true → cond t b a ≡ v → ((u ≡ a) × (v ≡ b)) ⊎ ((u ≡ b) × (v ≡ a))
      go a b true p q r = inl (sym (eqb-true a u p), sym r)
      go a b false p q r = inr (sym (eqb-true b u q), sym r)

  -- a segment that leads from x to y leads from z to w only where z, w are x, y or y, x
  pub either : {i x y z w : ℕ} {ok : ℕ → Bool} → Leads segs i x y → Chain segs ok x y → Leads segs i z w → Chain segs ok z w
  either {i} {x} {y} {z} {w} l c k = elim (ℕ_discrete z x) [
    | yes e ↦ let q : y ≡ w = sym l.across ∙ ap (other segs i) (sym e) ∙ k.across in rw (e, ← q) c
    | no e ↦ elim (ℕ_discrete z y) [
      | yes f ↦ let q : x ≡ w = sym (leads_back segs l).across ∙ ap (other segs i) (sym f) ∙ k.across in rw (f, ← q) (back c)
      | no f ↦ absurd (clash k.ends (no_third segs z l e f))
    ]
  ]

  -- the other end of a segment that leads to v, where it touches another post x
  pub far_end : {i v x : ℕ} → Leads segs i (other segs i v) v → touches segs i x ≡ true → (x ≡ v → ⊥) → other segs i v ≡ x
  far_end {i} {v} {x} l t ne = elim (ℕ_discrete x (other segs i v)) [
    | yes z ↦ sym z
    | no z ↦ absurd (clash t (no_third segs x l z ne))
  ]

-- what the segments of a route count for, each at most c
pub weigh_most : (segs : List Segment) (c : ℕ) (w : ℕ → ℕ) {ok : ℕ → Bool} → ((i : ℕ) → i < length segs → ok i ≡ true → w i ≤ c)
    → {u v : ℕ} {is : List ℕ} → Route segs ok u is v → weigh w is ≤ length is * c
weigh_most segs c w f here = omega arith
weigh_most segs c w f (by {i = i} {is = is} l o r) = omega (arith, f i l.is_segment o, weigh_most segs c w f r, suc-mul (length is) c)

-- A CHAIN WITHOUT ONE SEGMENT
-- the segments of U but m
abbrev pub without : (ℕ → Bool) → ℕ → ℕ → Bool
without U m j = U j && not (eqb j m)

-- m is not among them
pub without_self : (U : ℕ → Bool) (m : ℕ) → without U m m ≡ false
without_self U m = so_false (without U m m) (λ e. clash (eq-eqb m m refl) (not_true (eqb m m) (and_right (U m) (not (eqb m m)) e)))

-- and all the others are
pub without_keeps : (U : ℕ → Bool) (m j : ℕ) → U j ≡ true → (j ≡ m → ⊥) → without U m j ≡ true
without_keeps U m j o ne = and_i o (rw (ne_eqb j m ne))

-- a chain from u to v keeps to the segments of L, or does so up to some x and from some y on, where m leads from x to y
pub data Through (segs : List Segment) (L U : ℕ → Bool) (u v : ℕ) : Type 0 where
  avoids : Chain segs L u v → Through segs L U u v
  meets : {m x y : ℕ} → U m ≡ true → L m ≡ false → Chain segs L u x → Leads segs m x y → Chain segs L y v → Through segs L U u v

module _ (segs : List Segment) where
  -- the same chain, where more of the net's segments are there
  pub widen : {ok ok' : ℕ → Bool} → ((i : ℕ) → i < length segs → ok i ≡ true → ok' i ≡ true) → {u v : ℕ} → Chain segs ok u v → Chain segs ok' u v
  widen f c = replaced segs (λ i u v l o. along segs l (f i l.is_segment o)) c

  module _ (L U : ℕ → Bool) (only_one : (i j : ℕ) → i < length segs → j < length segs → U i ≡ true → L i ≡ false → U j ≡ true → L j ≡ false → i ≡ j) where
    -- m leads from u to w, and again from x to y, from where L goes on to v
    met_again : {m u w x y v : ℕ} → U m ≡ true → L m ≡ false → Leads segs m u w → Leads segs m x y → Chain segs L y v → Through segs L U u v
    met_again {m} {u} {w} {x} {y} {v} o e l k c = elim (ℕ_discrete y u) [
      | yes q ↦ avoids (rw q at c)
      | no q ↦ elim (ℕ_discrete y w) [
        | yes r ↦ meets o e (stay segs) l (rw r at c)
        | no r ↦ absurd (clash (leads_back segs k).ends (no_third segs y l q r))
      ]
    ]

    met_first : {i u w v : ℕ} → U i ≡ true → L i ≡ false → Leads segs i u w → Through segs L U w v → Through segs L U u v
    met_first o e l (avoids c) = meets o e (stay segs) l c
    met_first {i} {u} {w} {v} o e l (meets {m = m} p f c k d) =
        let q : m ≡ i = only_one m i k.is_segment l.is_segment p f o e in
        met_again o e l (rw q at k) d

    not_met : {i u w v : ℕ} → L i ≡ true → Leads segs i u w → Through segs L U w v → Through segs L U u v
    not_met e l (avoids c) = avoids (join segs (along segs l e) c)
    not_met e l (meets p f c k d) = meets p f (join segs (along segs l e) c) k d

    through_route : {u v : ℕ} {is : List ℕ} → Route segs U u is v → Through segs L U u v
    through_route here = avoids (stay segs)
    through_route (by {i = i} l o r) = elim (true_or_false (L i)) [
      | inl e ↦ not_met e l (through_route r)
      | inr e ↦ met_first o e l (through_route r)
    ]

    -- where L has all the segments of U but one, a chain of U needs that one no more than once
    pub through : {u v : ℕ} → Chain segs U u v → Through segs L U u v
    through c = through_route c.route
