-- What one segment does to the entries of a tree list, where it is looked at in its turn: a post that hangs by none
-- hangs by it if it fits. d gives the note of a post. Rests on `Lists` and on `net`'s words; the contracts of `hook`
-- and `hook_both` cite it.
use Rattle.std.specs.Prelude.{◌≡◌, Bool, ◌&&◌, cond, ◌||◌, List, ℕ, ◌+◌, eqb}
use Rattle.net.specs.Words.{only, no_segment}
use Rattle.hanging.specs.Lists.{note}

-- v hangs by i if it hung by none, and the note of u and c come to its own
pub record Hooked (u v i c : ℕ) (d : ℕ → ℕ) (t t' : List ℕ) : Type 0 where
  pub hung : note t' v ≡ only (eqb (note t v) no_segment && eqb (d u + c) (d v)) (λ _. i) (note t v)
  pub rest : (z : ℕ) → (z ≡ v → ⊥) → note t' z ≡ note t z

-- segment i, of the ends x and y, fits v: the note of its other end and c come to that of v
abbrev pub fitting : (x y c : ℕ) → (ℕ → ℕ) → ℕ → Bool
fitting x y c d v = (eqb x v || eqb y v) && eqb (d (cond (eqb x v) y x) + c) (d v)

-- each post does so by segment i, of the ends x and y
pub record Hooks (x y i c : ℕ) (d : ℕ → ℕ) (t t' : List ℕ) : Type 0 where
  pub each : (v : ℕ) → note t' v ≡ only (eqb (note t v) no_segment && fitting x y c d v) (λ _. i) (note t v)
