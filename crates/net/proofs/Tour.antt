-- The walk as a list of moves: which moves are made does not depend on the notes, and the walk is its moves done in turn (`walk_is_tour`).
-- The moves go from post to post without a break, by segments of the tree walked (`tour_trip`), and enter every post of that tree (`tour_enters`);
-- so the notes are fine at the end (`fine_walk`), and each post entered meets its limit (`entered_limit`).
use mathlib.Core.Path.{◌≡◌, refl, sym, ap, ◌∙◌}
use mathlib.Core.Bool.{Bool, true, false}
use mathlib.Core.List.{List, [], ◌∷◌, ◌++◌, foldl, foldl-append}
use Prim.Native.Nat.{ℕ, zero, suc, ◌≤◌, ◌<◌}
use native.Mathlib.Omega.{arith}
use native.Mathlib.Decide.{dec_lt}
use lib.ListN.{length}
use lib.Dec.{eqb}
use borrow.Author.Tests.{eqb-true}
use Rattle.net.specs.Words.{each, only}
use Rattle.net.specs.Net.{touches, other, Leads}
use Rattle.net.specs.Trees.{entry, parent, used_by}
use Rattle.net.specs.Walk.{Notes, Given, at_start, try, enter, child, walk}
use Rattle.net.proofs.Words.{and_left, and_right}
use Rattle.net.proofs.Routes.{leads_back}
use Rattle.net.proofs.Least.{leads_to}
use Rattle.net.proofs.Used.{entry_used}
use Rattle.net.proofs.Steps.{Lower, try_lower, enter_lower}
use Rattle.net.proofs.Notes.{Owed, Fine, fine_try, fine_enter, fine_start, Limit, limit_lower, enter_limit}

-- v is entered; v is tried from u by segment i
pub data Move : Type 0 where
  entering : ℕ → Move
  trying : ℕ → ℕ → ℕ → Move

module _ (g : Given) where
  -- down by segment i, what is done below, and back
  abbrev pub leg : ℕ → (ℕ → List Move) → ℕ → List Move
  leg v below i = let c = other g.segments i v in trying v i c ∷ below c ++ (trying c i v ∷ [])

  -- v is entered, then a leg for each child by a segment below j
  abbrev pub legs : (ℕ → List Move) → ℕ → ℕ → List Move
  legs below v j = each j (λ i. only (child g v i) (λ ms. ms ++ leg v below i)) (entering v ∷ [])

  unfoldable pub tour : ℕ → ℕ → List Move
  tour zero v = []
  tour (suc k) v = legs (λ c. tour k c) v (length g.segments)

  unfoldable pub move : Notes → Move → Notes
  move n (entering v) = enter g v n
  move n (trying u i v) = try g u i v n

  unfoldable pub moves : Notes → List Move → Notes
  moves n ms = foldl move n ms

  pub moves_enter : (n : Notes) (v : ℕ) (ms : List Move) → moves n (entering v ∷ ms) ≡ moves (enter g v n) ms
  unfolding moves move
  moves_enter n v ms = refl

  pub moves_try : (n : Notes) (u i v : ℕ) (ms : List Move) → moves n (trying u i v ∷ ms) ≡ moves (try g u i v n) ms
  unfolding moves move
  moves_try n u i v ms = refl

  pub moves_none : (n : Notes) → moves n [] ≡ n
  unfolding moves
  moves_none n = refl

  moves_append : (n : Notes) (a b : List Move) → moves n (a ++ b) ≡ moves (moves n a) b
  unfolding moves
  moves_append n a b = foldl-append move n a b

  module _ (k : ℕ) (ih : (v : ℕ) (n : Notes) → walk g k v n ≡ moves n (tour k v)) (v : ℕ) where
    there_and_back : (c i : ℕ) (m : Notes) → try g c i v (walk g k c (try g v i c m)) ≡ moves m (trying v i c ∷ tour k c ++ (trying c i v ∷ []))
    unfolding moves move
    there_and_back c i m = ap (try g c i v) (ih c (try g v i c m)) ∙ sym (foldl-append move (try g v i c m) (tour k c) (trying c i v ∷ []))

    leg_is : (n m : Notes) (ms : List Move) (i : ℕ) (b : Bool) → m ≡ moves n ms
        → only b (λ x. let c = other g.segments i v in try g c i v (walk g k c (try g v i c x))) m ≡ moves n (only b (λ ys. ys ++ leg v (λ c. tour k c) i) ms)
    leg_is n m ms i false e = e
    leg_is n m ms i true e = rw (moves_append, ← e) (there_and_back (other g.segments i v) i m)

    legs_are : (n : Notes) (j : ℕ)
        → each j (λ i. only (child g v i) (λ x. let c = other g.segments i v in try g c i v (walk g k c (try g v i c x)))) (enter g v n)
        ≡ moves n (legs (λ c. tour k c) v j)
    unfolding moves move
    legs_are n zero = refl
    legs_are n (suc j) =
        leg_is n (each j (λ i. only (child g v i) (λ x. let c = other g.segments i v in try g c i v (walk g k c (try g v i c x)))) (enter g v n))
        (legs (λ c. tour k c) v j) j (child g v j) (legs_are n j)

  -- THE WALK IS ITS MOVES
  pub walk_is_tour : (k v : ℕ) (n : Notes) → walk g k v n ≡ moves n (tour k v)
  unfolding walk tour moves
  walk_is_tour zero v n = refl
  walk_is_tour (suc k) v n = legs_are k (walk_is_tour k) v n (length g.segments)

  -- no note rises
  pub moves_lower : (n : Notes) (ms : List Move) → Lower g n (moves n ms)
  moves_lower n [] x = rw (moves_none n) (omega arith)
  moves_lower n (entering v ∷ ms) x = rw (moves_enter n v ms) (omega (arith, moves_lower (enter g v n) ms x, enter_lower g v n x))
  moves_lower n (trying u i v ∷ ms) x = rw (moves_try n u i v ms) (omega (arith, moves_lower (try g u i v n) ms x, try_lower g u i v n x))

  -- x is entered
  pub data Enters (x : ℕ) : List Move → Type 0 where
    now : {ms : List Move} → Enters x (entering x ∷ ms)
    later : {m : Move} {ms : List Move} → Enters x ms → Enters x (m ∷ ms)

  enters_left : (x : ℕ) {a : List Move} (b : List Move) → Enters x a → Enters x (a ++ b)
  enters_left x b now = now
  enters_left x b (later e) = later (enters_left x b e)

  enters_right : (x : ℕ) (a : List Move) {b : List Move} → Enters x b → Enters x (a ++ b)
  enters_right x [] e = e
  enters_right x (m ∷ a) e = later (enters_right x a e)

  -- x hangs j levels below v in the tree walked
  pub data Down : ℕ → ℕ → ℕ → Type 0 where
    stop : {v : ℕ} → Down v 0 v
    deeper : {v i j x : ℕ} → i < length g.segments → child g v i ≡ true → Down (other g.segments i v) j x → Down v (suc j) x

  pub down_on : {u j v i : ℕ} → Down u j v → i < length g.segments → child g v i ≡ true → Down u (suc j) (other g.segments i v)
  down_on stop h e = deeper h e stop
  down_on (deeper k f d) h e = deeper k f (down_on d h e)

  still_enters : (x : ℕ) (below : ℕ → List Move) (v i : ℕ) (b : Bool) {ms : List Move} → Enters x ms → Enters x (only b (λ ns. ns ++ leg v below i) ms)
  still_enters x below v i true z = enters_left x (leg v below i) z
  still_enters x below v i false z = z

  legs_first : (below : ℕ → List Move) (v j : ℕ) → Enters v (legs below v j)
  legs_first below v zero = now
  legs_first below v (suc j) = still_enters v below v j (child g v j) (legs_first below v j)

  legs_child : (below : ℕ → List Move) (v i x : ℕ) → child g v i ≡ true → Enters x (below (other g.segments i v)) → (j : ℕ) → i < j → Enters x (legs below v j)
  legs_child below v i x e z zero h = absurd (omega arith)
  legs_child below v i x e z (suc j) h = elim (dec_lt i j) [
    | yes p ↦ still_enters x below v j (child g v j) (legs_child below v i x e z j p)
    | no p ↦ let q : j ≡ i = omega arith in rw q (rw e (enters_right x (legs below v i) (later (enters_left x (trying (other g.segments i v) i v ∷ []) z))))
  ]

  -- EVERY POST OF THE TREE WALKED IS ENTERED
  pub tour_enters : (k : ℕ) {v j x : ℕ} → Down v j x → j < k → Enters x (tour k v)
  unfolding tour
  tour_enters zero d h = absurd (omega arith)
  tour_enters (suc k) {v} stop h = legs_first (λ c. tour k c) v (length g.segments)
  tour_enters (suc k) {v} {x = x} (deeper {i = i} p e d) h = legs_child (λ c. tour k c) v i x e (tour_enters k d (omega arith)) (length g.segments) p

  -- a child's segment leads to it, and is its entry in the tree walked
  pub child_leads : (v i : ℕ) → i < length g.segments → child g v i ≡ true → Leads g.segments i v (other g.segments i v)
  child_leads v i h e = record { is_segment = h; ends = and_left (touches g.segments i v) (eqb (entry g.walked (other g.segments i v)) i) e; across = refl }

  pub child_entry : (v i : ℕ) → child g v i ≡ true → entry g.walked (other g.segments i v) ≡ i
  child_entry v i e = eqb-true (entry g.walked (other g.segments i v)) i (and_right (touches g.segments i v) (eqb (entry g.walked (other g.segments i v)) i) e)

  pub child_parent : (v i : ℕ) → i < length g.segments → child g v i ≡ true → parent g.segments g.walked (other g.segments i v) ≡ v
  child_parent v i h e = rw (child_entry v i e) (leads_back g.segments (child_leads v i h e)).across

  -- moves that go from x to y without a break, by segments that are there and in the tree walked
  pub data Trip (ok : ℕ → Bool) : ℕ → List Move → ℕ → Type 0 where
    stay : {x : ℕ} → Trip ok x [] x
    enters : {x y : ℕ} {ms : List Move} → Trip ok x ms y → Trip ok x (entering x ∷ ms) y
    goes : {u i v y : ℕ} {ms : List Move} → Leads g.segments i u v → ok i ≡ true → used_by g.posts g.walked i ≡ true → Trip ok v ms y → Trip ok u (trying u i v ∷ ms) y

  trip_append : {ok : ℕ → Bool} {x y z : ℕ} {a b : List Move} → Trip ok x a y → Trip ok y b z → Trip ok x (a ++ b) z
  trip_append stay q = q
  trip_append (enters p) q = enters (trip_append p q)
  trip_append (goes l o t p) q = goes l o t (trip_append p q)

  module _ (ok : ℕ → Bool) (s : ℕ) (owed : Owed g ok s) where
    child_used : (v i : ℕ) → i < length g.segments → child g v i ≡ true → used_by g.posts g.walked i ≡ true
    child_used v i h e =
        entry_used g.posts g.walked (other g.segments i v) i (leads_to owed.inside (child_leads v i h e) (owed.walked_ok v i h e)) (child_entry v i e)

    module _ (k : ℕ) (ih : (v : ℕ) → Trip ok v (tour k v) v) (v : ℕ) where
      trip_leg : (i : ℕ) → i < length g.segments → (b : Bool) → child g v i ≡ b → {ms : List Move} → Trip ok v ms v → Trip ok v (only b (λ ns. ns ++ leg v (λ c. tour k c) i) ms) v
      trip_leg i p false e z = z
      trip_leg i p true e z =
          let l = child_leads v i p e in
          let o = owed.walked_ok v i p e in
          let t = child_used v i p e in
          trip_append z (goes l o t (trip_append (ih (other g.segments i v)) (goes (leads_back g.segments l) o t stay)))

      trip_legs : (j : ℕ) → j ≤ length g.segments → Trip ok v (legs (λ c. tour k c) v j) v
      trip_legs zero p = enters stay
      trip_legs (suc j) p = trip_leg j p (child g v j) refl (trip_legs j (omega arith))

    -- THE MOVES ARE ONE TRIP
    pub tour_trip : (k v : ℕ) → Trip ok v (tour k v) v
    unfolding tour
    tour_trip zero v = stay
    tour_trip (suc k) v = trip_legs k (tour_trip k) v (length g.segments) (omega arith)

    -- the notes stay fine along a trip
    pub fine_moves : (n : Notes) {x y : ℕ} {ms : List Move} → Trip ok x ms y → x < g.posts → Fine g ok s n → Fine g ok s (moves n ms)
    fine_moves n stay h f = rw (moves_none n) f
    fine_moves n (enters {x = x} {ms = ms} t) h f = rw (moves_enter n x ms) (fine_moves (enter g x n) t h (fine_enter g ok s owed x n h f))
    fine_moves n (goes {u = u} {i = i} {v = v} {ms = ms} l o z t) h f =
        rw (moves_try n u i v ms) (fine_moves (try g u i v n) t (leads_to owed.inside l o) (fine_try g ok s owed u i v n l o f))

    pub fine_walk : (k : ℕ) → Fine g ok s (walk g k s (at_start g.posts s))
    fine_walk k = rw (walk_is_tour k s (at_start g.posts s)) (fine_moves (at_start g.posts s) (tour_trip k s) owed.below (fine_start g ok s owed))

    -- a post that is entered meets its limit from then on
    limit_moves : (n : Notes) (v : ℕ) {x y : ℕ} {ms : List Move} → Trip ok x ms y → Enters v ms → x < g.posts → Fine g ok s n → Limit g ok s owed v (moves n ms)
    limit_moves n v stay e h f = elim e [ ]
    limit_moves n v (enters {x = x} {ms = ms} t) now h f =
        rw (moves_enter n x ms) (limit_lower g ok s owed x (enter g x n) (moves (enter g x n) ms) (moves_lower (enter g x n) ms x) (enter_limit g ok s owed x n h f))
    limit_moves n v (enters {x = x} {ms = ms} t) (later e) h f = rw (moves_enter n x ms) (limit_moves (enter g x n) v t e h (fine_enter g ok s owed x n h f))
    limit_moves n v (goes {u = u} {i = i} {v = y} {ms = ms} l o z t) (later e) h f =
        rw (moves_try n u i y ms) (limit_moves (try g u i y n) v t e (leads_to owed.inside l o) (fine_try g ok s owed u i y n l o f))

    pub entered_limit : (k v : ℕ) → Enters v (tour k s) → Limit g ok s owed v (walk g k s (at_start g.posts s))
    entered_limit k v e = rw (walk_is_tour k s (at_start g.posts s)) (limit_moves (at_start g.posts s) v (tour_trip k s) e owed.below (fine_start g ok s owed))
