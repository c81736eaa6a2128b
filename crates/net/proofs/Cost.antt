-- What the laid paths cost: p × (the least lengths of the posts laid) is at most q × (the way walked), p/q no larger than the ratio of any post laid (`laid_cost`).
-- One inequality along the way carries it: standing at x after a way w, p × ΣD(laid) + q × d(x) ≤ q × w.
-- And a post's note is at most the way walked until it is entered (`entered_near`).
use mathlib.Core.Path.{◌≡◌, ap, ◌∙◌}
use mathlib.Core.Bool.{Bool}
use mathlib.Core.List.{List, [], ◌∷◌, ◌++◌}
use Prim.Native.Nat.{ℕ, ◌+◌, ◌*◌, ◌≤◌, ◌<◌}
use native.Mathlib.Omega.{arith}
use native.Mathlib.Nat.{mul-le-mul_left, mul-le-mul_right, le_of_mul-le-mul_left, mul-add, zero-mul, zero-add, add_assoc, pos_of_ne-zero, le_of_lt}
use lib.ListN.{length}
use Rattle.net.specs.Words.{AllOf}
use Rattle.net.specs.Net.{length_at, weigh}
use Rattle.net.specs.Trees.{at}
use Rattle.net.specs.Walk.{Notes, Given, at_start, try, lay, count, enter, walk}
use Rattle.net.specs.declared.Segment.{Segment}
use Rattle.net.proofs.Least.{leads_to}
use Rattle.net.proofs.Steps.{enter_cases, enter_lower, try_note, try_laid, lay_laid, count_d, count_laid}
use Rattle.net.proofs.Notes.{Owed, Fine, fine_try, fine_enter, fine_start, lay_down, start_laid}
use Rattle.net.proofs.Tour.{Move, entering, trying, tour, moves, moves_enter, moves_try, moves_none, moves_lower, walk_is_tour, Enters, now, later, Trip, stay, enters, goes, tour_trip}

-- what the test on entering says in a ratio no larger than the post's own
own_ratio : (p q a b D d : ℕ) → (a + b) * D < b * d → p * b ≤ a * q → (p + q) * D ≤ q * d
own_ratio p q a b D d t r =
    let pos : 0 < b = pos_of_ne-zero (λ e. let z : b * d ≡ 0 = ap (λ (k : ℕ). k * d) e ∙ zero-mul d in omega arith) in
    let m = mul-le-mul_right D r in
    let n = mul-le-mul_left q (le_of_lt t) in
    let w : b * ((p + q) * D) ≤ b * (q * d) = omega arith in
    le_of_mul-le-mul_left w pos

-- the way that moves go
abbrev pub way : List Segment → List Move → ℕ
way segs [] = 0
way segs (entering v ∷ ms) = way segs ms
way segs (trying u i v ∷ ms) = length_at segs i + way segs ms

pub way_append : (segs : List Segment) (a b : List Move) → way segs (a ++ b) ≡ way segs a + way segs b
way_append segs [] b = omega arith
way_append segs (entering v ∷ a) b = way_append segs a b
way_append segs (trying u i v ∷ a) b = omega (arith, way_append segs a b)

module _ (g : Given) (ok : ℕ → Bool) (s : ℕ) (owed : Owed g ok s) where
  module _ (p q : ℕ) where
    -- p/q is no larger than the ratio of any post laid
    abbrev pub Small : List ℕ → Type 0
    Small laid = AllOf (λ v. p * g.q v ≤ g.p v * q) laid

    -- standing at x after a way w
    abbrev pub Paid : ℕ → ℕ → Notes → Type 0
    Paid x w n = Small n.laid → p * weigh (at g.D) n.laid + q * at n.d x ≤ q * w

    paid_try : (u i v w : ℕ) (n : Notes) → v < length n.d → Paid u w n → Paid v (w + length_at g.segments i) (try g u i v n)
    paid_try u i v w n h k =
        rw (try_laid g u i v n)
        (λ small. omega (arith, k small, mul-le-mul_left q (try_note g u i v n h), mul-add q (at n.d u) (length_at g.segments i), mul-add q w (length_at g.segments i)))

    laid_paid : (v w : ℕ) (n : Notes) → v < g.posts → Fine g ok s n → (g.p v + g.q v) * at g.D v < g.q v * at n.d v → Paid v w n → Paid v w (count g v (lay g g.posts v n))
    laid_paid v w n h f t k =
        rw (count_laid g v (lay g g.posts v n), count_d g v (lay g g.posts v n), lay_laid g g.posts v n)
        (λ small.
        omega (
          arith,
          k small.1,
          own_ratio p q (g.p v) (g.q v) (at g.D v) (at n.d v) t small.0,
          mul-le-mul_left q (lay_down g ok s owed g.posts v n h f (owed.rank_most v h)),
        ))

    paid_enter : (v w : ℕ) (n : Notes) → v < g.posts → Fine g ok s n → Paid v w n → Paid v w (enter g v n)
    paid_enter v w n h f k = enter_cases g v n (Paid v w) (λ t. laid_paid v w n h f t k) (λ t. k)

    paid_moves : (w : ℕ) (n : Notes) {x y : ℕ} {ms : List Move} → Trip g ok x ms y → x < g.posts → Fine g ok s n → Paid x w n → Paid y (w + way g.segments ms) (moves g n ms)
    paid_moves w n stay h f k = rw (moves_none g n) (λ small. omega (arith, k small, mul-add q w 0))
    paid_moves w n (enters {x = x} {ms = ms} t) h f k = rw (moves_enter g n x ms) (paid_moves w (enter g x n) t h (fine_enter g ok s owed x n h f) (paid_enter x w n h f k))
    paid_moves w n (goes {u = u} {i = i} {v = v} {ms = ms} l o z t) h f k =
        let hv = leads_to owed.inside l o in
        rw (moves_try g n u i v ms, ← add_assoc w (length_at g.segments i) (way g.segments ms))
        (paid_moves (w + length_at g.segments i) (try g u i v n) t hv (fine_try g ok s owed u i v n l o f) (paid_try u i v w n (omega (arith, f.d_long)) k))

    -- P × THE LEAST LENGTHS OF THE POSTS LAID ≤ Q × THE WAY WALKED
    pub laid_cost : (k : ℕ) → Small (walk g k s (at_start g.posts s)).laid
        → p * weigh (at g.D) (walk g k s (at_start g.posts s)).laid ≤ q * way g.segments (tour g k s)
    laid_cost k =
        let f = fine_start g ok s owed in
        let z = paid_moves 0 (at_start g.posts s) (tour_trip g ok s owed k s) owed.below f (rw (start_laid g ok s owed, f.at_source) (λ small. omega arith)) in
        rw (walk_is_tour g k s (at_start g.posts s))
        (λ small. omega (arith, z small, ap (λ (x : ℕ). q * x) (zero-add (way g.segments (tour g k s)))))

  -- A NOTE IS AT MOST THE WAY WALKED
  near_try : (u i v w : ℕ) (n : Notes) → v < length n.d → at n.d u ≤ w → at (try g u i v n).d v ≤ w + length_at g.segments i
  near_try u i v w n h k = omega (arith, try_note g u i v n h)

  entered : (w : ℕ) (n : Notes) (v : ℕ) {x y : ℕ} {ms : List Move} → Trip g ok x ms y → Enters g v ms → x < g.posts → Fine g ok s n → at n.d x ≤ w
      → at (moves g n ms).d v ≤ w + way g.segments ms
  entered w n v stay e h f k = elim e [ ]
  entered w n v (enters {x = x} {ms = ms} t) now h f k =
      rw (moves_enter g n x ms) (omega (arith, moves_lower g (enter g x n) ms x, enter_lower g x n x))
  entered w n v (enters {x = x} {ms = ms} t) (later e) h f k =
      rw (moves_enter g n x ms) (entered w (enter g x n) v t e h (fine_enter g ok s owed x n h f) (omega (arith, enter_lower g x n x)))
  entered w n v (goes {u = u} {i = i} {v = y} {ms = ms} l o z t) (later e) h f k =
      let hy = leads_to owed.inside l o in
      rw (moves_try g n u i y ms)
      (omega (arith, entered (w + length_at g.segments i) (try g u i y n) v t e hy (fine_try g ok s owed u i y n l o f) (near_try u i y w n (omega (arith, f.d_long)) k)))

  pub entered_near : (k v : ℕ) → Enters g v (tour g k s) → at (walk g k s (at_start g.posts s)).d v ≤ way g.segments (tour g k s)
  entered_near k v e =
      let f = fine_start g ok s owed in
      rw (walk_is_tour g k s (at_start g.posts s)) (omega (arith, entered 0 (at_start g.posts s) v (tour_trip g ok s owed k s) e owed.below f (omega (arith, f.at_source))))
