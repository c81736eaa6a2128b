-- Which posts a walk lays: posts, and never the source (`laid_away`), so what holds of every post but the source holds of every post laid (`laid_all`).
-- Over any tree that is given and any ratios.
use mathlib.Core.Path.{◌≡◌, ap, ◌∙◌}
use mathlib.Core.Bool.{Bool}
use mathlib.Core.List.{List, [], ◌∷◌}
use Prim.Native.Nat.{ℕ, ◌+◌, ◌*◌, ◌<◌}
use native.Mathlib.Omega.{arith}
use Rattle.net.specs.Words.{AllOf}
use Rattle.net.specs.Trees.{at}
use Rattle.net.specs.Walk.{Notes, Given, at_start, try, lay, enter, walk}
use Rattle.net.proofs.Least.{leads_to}
use Rattle.net.proofs.Steps.{enter_cases, try_laid, lay_laid, count_laid}
use Rattle.net.proofs.Notes.{Owed, Fine, fine_try, fine_enter, fine_start, start_laid}
use Rattle.net.proofs.Tour.{Move, moves, moves_enter, moves_try, moves_none, walk_is_tour, Trip, stay, enters, goes, tour_trip}

all_by : {P Q : ℕ → Type 0} → ((v : ℕ) → P v → Q v) → (l : List ℕ) → AllOf P l → AllOf Q l
all_by f [] a = tt
all_by f (v ∷ vs) a = (f v a.0, all_by f vs a.1)

module _ (g : Given) (ok : ℕ → Bool) (s : ℕ) (owed : Owed g ok s) where
  -- a post, and not the source
  abbrev pub Away : ℕ → Type 0
  Away v = (v < g.posts) × (v ≡ s → ⊥)

  not_source : (v : ℕ) (n : Notes) → Fine g ok s n → (g.p v + g.q v) * at g.D v < g.q v * at n.d v → v ≡ s → ⊥
  not_source v n f t e =
      let z : at n.d v ≡ 0 = ap (at n.d) e ∙ f.at_source in
      omega (arith, t, ap (λ (x : ℕ). g.q v * x) z)

  away_enter : (v : ℕ) (n : Notes) → v < g.posts → Fine g ok s n → AllOf Away n.laid → AllOf Away (enter g v n).laid
  away_enter v n h f k =
      enter_cases g v n (λ m. AllOf Away m.laid)
      (λ t. rw (count_laid g v (lay g g.posts v n), lay_laid g g.posts v n) ((h, not_source v n f t), k))
      (λ t. k)

  away_moves : (n : Notes) {x y : ℕ} {ms : List Move} → Trip g ok x ms y → x < g.posts → Fine g ok s n → AllOf Away n.laid → AllOf Away (moves g n ms).laid
  away_moves n stay h f k = rw (moves_none g n) k
  away_moves n (enters {x = x} {ms = ms} t) h f k = rw (moves_enter g n x ms) (away_moves (enter g x n) t h (fine_enter g ok s owed x n h f) (away_enter x n h f k))
  away_moves n (goes {u = u} {i = i} {v = v} {ms = ms} l o z t) h f k =
      rw (moves_try g n u i v ms) (away_moves (try g u i v n) t (leads_to owed.inside l o) (fine_try g ok s owed u i v n l o f) (rw (try_laid g u i v n) k))

  pub laid_away : (k : ℕ) → AllOf Away (walk g k s (at_start g.posts s)).laid
  laid_away k =
      rw (walk_is_tour g k s (at_start g.posts s))
      (away_moves (at_start g.posts s) (tour_trip g ok s owed k s) owed.below (fine_start g ok s owed) (rw (start_laid g ok s owed) tt))

  pub laid_all : (Q : ℕ → Type 0) → ((v : ℕ) → v < g.posts → (v ≡ s → ⊥) → Q v) → (k : ℕ) → AllOf Q (walk g k s (at_start g.posts s)).laid
  laid_all Q f k = all_by {P = Away} {Q = Q} (λ v a. f v a.0 a.1) (walk g k s (at_start g.posts s)).laid (laid_away k)
