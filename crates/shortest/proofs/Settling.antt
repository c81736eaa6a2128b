-- The search that settles posts in the order of their notes. d gives the note of a post, and S says whether it is settled; `ok` says which segments are
-- present, and w what each counts for. The note of a settled post, and the least note of the others, can't fall any more (`final`, `final_next`);
-- where no unsettled post has a note, the notes are the least lengths (`notes_settled`, by `net`'s `settled_is`).
use mathlib.Core.Path.{◌≡◌, refl, sym, ap, ◌∙◌}
use mathlib.Core.Bool.{Bool, true, false}
use mathlib.Core.List.{List, [], ◌∷◌, ◌++◌}
use mathlib.Core.Logic.{◌⊎◌, inl, inr, ⊎_elim}
use Prim.Native.Nat.{ℕ, ◌+◌, ◌<◌, ◌≤◌}
use native.Mathlib.Nat.{le_trans, le_of_eq}
use native.Mathlib.Omega.{arith}
use Rattle.net.specs.Net.{Leads, Route, here, by, weigh}
use Rattle.net.specs.Trees.{none_yet, at}
use Rattle.net.specs.declared.Segment.{Segment}
use Rattle.net.proofs.Words.{true_or_false, clash}
use Rattle.net.proofs.Routes.{snoc, weigh_snoc}
use Rattle.net.proofs.Least.{Inside, leads_from, leads_to, Settled}
use Rattle.shortest.specs.Notes.{Cleared}
use Rattle.hanging.proofs.Lists.{same?}

-- a flag can't be up and down
pub not_both : {A : Type 0} {t : Bool} → t ≡ true → t ≡ false → A
not_both p q = absurd (clash p q)

module _ (segs : List Segment) (ok : ℕ → Bool) (w : ℕ → ℕ) where
  -- a route from s to v that comes to x
  pub record Comes (s v x : ℕ) : Type 0 where
    pub is : List ℕ
    pub route : Route segs ok s is v
    pub weighs : weigh w is ≡ x

  -- every present segment was offered from u, whose note is du
  pub record Relaxes (u du : ℕ) (d d' : ℕ → ℕ) : Type 0 where
    pub falls : (v : ℕ) → d' v ≤ d v
    pub most : (i v : ℕ) → Leads segs i u v → ok i ≡ true → d' v ≤ du + w i
    pub from : (v : ℕ) → (d' v ≡ d v) ⊎ ((i : ℕ) × Leads segs i u v × (ok i ≡ true) × (d' v ≡ du + w i))

  -- the notes of n posts at any time of a search from s
  pub record State (n s : ℕ) (d : ℕ → ℕ) (S : ℕ → Bool) : Type 0 where
    pub origin : d s ≡ 0
    -- a note below "none yet" is what some route comes to
    pub sound : (v : ℕ) → v < n → d v < none_yet → Comes s v (d v)
    pub most : (v : ℕ) → v < n → d v ≤ none_yet
    -- every segment at a settled post was offered, and no unsettled post has a lower note
    pub relaxed : (u i v : ℕ) → S u ≡ true → Leads segs i u v → ok i ≡ true → d v ≤ d u + w i
    pub below : (u v : ℕ) → S u ≡ true → v < n → S v ≡ false → d u ≤ d v

-- no post is settled
pub begin : {segs : List Segment} {ok : ℕ → Bool} {w : ℕ → ℕ} {n s : ℕ} {d₀ d : ℕ → ℕ} {S : ℕ → Bool} → Cleared n s d₀ d → ((v : ℕ) → S v ≡ false) → State segs ok w n s d S
begin {segs} {ok} {w} {n} {s} {d₀} {d} {S} c un =
    record {
      origin = c.zero;
      sound = λ v h k. ⊎_elim (λ e. rw e (rw c.zero (record { is = []; route = here; weighs = refl }))) (λ ne. absurd (omega (arith, c.others v h ne))) (same? v s);
      most = λ v h. ⊎_elim (λ e. omega (arith, ap d e, c.zero)) (λ ne. omega (arith, c.others v h ne)) (same? v s);
      relaxed = λ u i v t. not_both t (un u);
      below = λ u v t. not_both t (un u);
    }

module _ {segs : List Segment} {ok : ℕ → Bool} {w : ℕ → ℕ} {n s : ℕ} (inside : Inside segs ok n) (in-s : s < n) {d : ℕ → ℕ} {S : ℕ → Bool} (st : State segs ok w n s d S) where
  -- a route from a settled post leads to a settled post, whose note is no more, or past an unsettled one, whose note is no more
  reach_from : {u v : ℕ} {is : List ℕ} → Route segs ok u is v → S u ≡ true
      → ((S v ≡ true) × (d v ≤ d u + weigh w is)) ⊎ ((y : ℕ) × (y < n) × (S y ≡ false) × (d y ≤ d u + weigh w is))
  reach_from here t = inl (t, omega arith)
  reach_from (by {u = u} {v = x} {i = i} {is = is} l o r) t =
      let a = st.relaxed u i x t l o in
      ⊎_elim
      (λ p. ⊎_elim (λ q. inl (q.0, omega (arith, q.1))) (λ q. inr (q.0, q.1, q.2, omega (arith, q.3))) (reach_from r p))
      (λ p. inr (x, leads_to inside l o, p, omega arith))
      (true_or_false (S x))

  pub reach : {v : ℕ} {is : List ℕ} → Route segs ok s is v → ((S v ≡ true) × (d v ≤ weigh w is)) ⊎ ((y : ℕ) × (y < n) × (S y ≡ false) × (d y ≤ weigh w is))
  reach r =
      let z = st.origin in
      ⊎_elim
      (λ t. ⊎_elim (λ q. inl (q.0, omega (arith, q.1))) (λ q. inr (q.0, q.1, q.2, omega (arith, q.3))) (reach_from r t))
      (λ t. inr (s, in-s, t, omega arith))
      (true_or_false (S s))

  -- the note of a settled post is final
  pub final : {v : ℕ} {is : List ℕ} → S v ≡ true → Route segs ok s is v → d v ≤ weigh w is
  final {v} t r = ⊎_elim (λ q. q.1) (λ q. le_trans (st.below v q.0 t q.1 q.2) q.3) (reach r)

  -- and so is the least note of the unsettled posts: it can't fall any more
  pub final_next : {v : ℕ} {is : List ℕ} → ((y : ℕ) → y < n → S y ≡ false → d v ≤ d y) → Route segs ok s is v → d v ≤ weigh w is
  final_next low r = ⊎_elim (λ q. q.1) (λ q. le_trans (low q.0 q.1 q.2) q.3) (reach r)

  -- where no unsettled post has a note, a list of the notes is settled
  pub notes_settled : ((y : ℕ) → y < n → S y ≡ false → none_yet ≤ d y) → (l : List ℕ) → ((v : ℕ) → v < n → at l v ≡ d v) → Settled segs ok w n inside s l
  notes_settled over l e =
      record {
        zero_there = e s in-s ∙ st.origin;
        no_better = better;
        some_route = λ v h k. let z = st.sound v h (rw (e v h) at k) in record { is = z.is; route = z.route; weighs = z.weighs ∙ sym (e v h) };
        most = λ v h. omega (arith, e v h, st.most v h);
      }
    where
      better : {i u v : ℕ} → Leads segs i u v → ok i ≡ true → at l v ≤ at l u + w i
      better {i} {u} {v} k o =
          let hu = leads_from inside k o in
          let hv = leads_to inside k o in
          ⊎_elim
          (λ t. omega (arith, e u hu, e v hv, st.relaxed u i v t k o))
          (λ t. omega (arith, e u hu, e v hv, over u hu t, st.most v hv))
          (true_or_false (S u))

  -- u, of the least note of the unsettled posts, is settled
  module _ {u : ℕ} {d' : ℕ → ℕ} {S' : ℕ → Bool} (u_in : u < n) (u-small : d u < none_yet) (was : S u ≡ false) (low : (y : ℕ) → y < n → S y ≡ false → d u ≤ d y)
      (r : Relaxes segs ok w u (d u) d d') (now-is : S' u ≡ true) (others : (v : ℕ) → (v ≡ u → ⊥) → S' v ≡ S v) where
    -- a post that is settled now was settled, or is u: its note is at most u's
    old : (x : ℕ) → S' x ≡ true → (x ≡ u) ⊎ (S x ≡ true)
    old x t = ⊎_elim inl (λ ne. inr (sym (others x ne) ∙ t)) (same? x u)

    unsettled : (x : ℕ) → S' x ≡ false → S x ≡ false
    unsettled x t = ⊎_elim (λ e. not_both (ap S' e ∙ now-is) t) (λ ne. sym (others x ne) ∙ t) (same? x u)

    under : (x : ℕ) → S' x ≡ true → d x ≤ d u
    under x t = ⊎_elim (λ e. le_of_eq (ap d e)) (λ o. st.below x u o u_in was) (old x t)

    kept : (x : ℕ) → S' x ≡ true → d' x ≡ d x
    kept x t = ⊎_elim (λ e. e) (λ q. omega (arith, under x t, r.falls x, q.3)) (r.from x)

    settle_sound : (v : ℕ) → v < n → d' v < none_yet → Comes segs ok w s v (d' v)
    settle_sound v h k =
        ⊎_elim
        (λ e. rw e (st.sound v h (rw e at k)))
        (λ q.
        let z = st.sound u u_in u-small in
        record { is = z.is ++ (q.0 ∷ []); route = snoc segs z.route q.1 q.2; weighs = omega (arith, weigh_snoc segs w z.is q.0, z.weighs, q.3) })
        (r.from v)

    pub settle : State segs ok w n s d' S'
    settle =
        record {
          origin = omega (arith, r.falls s, st.origin);
          sound = settle_sound;
          most = λ v h. omega (arith, r.falls v, st.most v h);
          relaxed = λ x i v t l o.
              ⊎_elim
              (λ e. omega (arith, kept x t, r.most i v (rw e at l) o, ap d e))
              (λ p. omega (arith, kept x t, st.relaxed x i v p l o, r.falls v))
              (old x t);
          below = λ x v t h un. ⊎_elim (λ e. omega (arith, kept x t, under x t, low v h (unsettled v un), e)) (λ q. omega (arith, kept x t, under x t, q.3)) (r.from v);
        }
