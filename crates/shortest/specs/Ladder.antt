-- The ladder of the open posts, those that are not settled: by it the least of their notes is found in a few steps.
-- The rung of post v is `posts + v`: there its note stands, or "none yet" once the post is settled. At each rung p
-- from 1 on, below `posts`, the lesser of what stands at the rungs 2 * p and 2 * p + 1 stands; so the least note of
-- all stands at rung 1. t says what stands at a rung. Rests on `Notes` and `net`'s words.
use Rattle.std.specs.Prelude.{◌≡◌, Bool, true, false, Option, ℕ, ◌+◌, ◌*◌, ◌<◌, min}
use Rattle.net.specs.Trees.{none_yet}
use Rattle.shortest.specs.Notes.{Nearest}

-- what is asked at rung p
abbrev pub Rung : (ℕ → ℕ) → ℕ → Type 0
Rung t p = t p ≡ min (t (2 * p)) (t (2 * p + 1))

-- every rung is as it should be
pub record Ladder (posts : ℕ) (t : ℕ → ℕ) : Type 0 where
  pub each : (p : ℕ) → 0 < p → p < posts → Rung t p

-- and the rungs of the posts say which are open, and their notes
pub record OpenPosts (posts : ℕ) (d : ℕ → ℕ) (S : ℕ → Bool) (t : ℕ → ℕ) : Type 0 where
  pub ladder : Ladder posts t
  pub unsettled : (v : ℕ) → v < posts → S v ≡ false → t (posts + v) ≡ d v
  pub settled : (v : ℕ) → v < posts → S v ≡ true → t (posts + v) ≡ none_yet

-- c was written at the rung of v, and the ladder is right again
pub record Written (posts v c : ℕ) (t t' : ℕ → ℕ) : Type 0 where
  pub ladder : Ladder posts t'
  pub here : t' (posts + v) ≡ c
  pub others : (x : ℕ) → x < posts → (x ≡ v → ⊥) → t' (posts + x) ≡ t (posts + x)

-- r is the nearest of the open posts that stand on the ladder, if one has a note
pub record NearestOn (posts : ℕ) (t : ℕ → ℕ) (r : Option ℕ) : Type 0 where
  pub is : {d : ℕ → ℕ} {S : ℕ → Bool} → OpenPosts posts d S t → Nearest posts d S r
