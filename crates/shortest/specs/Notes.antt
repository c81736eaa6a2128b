-- What the steps of the search for least lengths do to the notes. A list of notes is taken as the function that gives
-- the note of a post. Rests on `hanging`'s lists and `net`'s words.
use Rattle.std.specs.Prelude.{◌≡◌, Bool, true, false, List, Option, None, Some, ◌⊎◌, ℕ, ◌+◌, ◌<◌, ◌≤◌, length}
use Rattle.net.specs.Trees.{none_yet}
use Rattle.hanging.specs.Lists.{flag, note}

-- x and y are u and v, in either order: a segment of the ends x and y leads from u to v
pub data Joins (x y u v : ℕ) : Type 0 where
  forth : x ≡ u → y ≡ v → Joins x y u v
  back : y ≡ u → x ≡ v → Joins x y u v

-- before the search: 0 at the source, "none yet" at the other posts
pub record Cleared (posts source : ℕ) (d₀ d : ℕ → ℕ) : Type 0 where
  pub zero : d source ≡ 0
  pub others : (v : ℕ) → v < posts → (v ≡ source → ⊥) → d v ≡ none_yet
  pub rest : (v : ℕ) → posts ≤ v → d v ≡ d₀ v

-- c was offered to v
pub record Lowered (v c : ℕ) (d d' : ℕ → ℕ) : Type 0 where
  pub falls : (x : ℕ) → d' x ≤ d x
  pub most : d' v ≤ c
  pub from : (x : ℕ) → (d' x ≡ d x) ⊎ ((x ≡ v) × (d' x ≡ c))

-- c was offered across a segment of the ends x and y, from u
pub record Offered (u x y c : ℕ) (d d' : ℕ → ℕ) : Type 0 where
  pub falls : (v : ℕ) → d' v ≤ d v
  pub most : (v : ℕ) → Joins x y u v → d' v ≤ c
  pub from : (v : ℕ) → (d' v ≡ d v) ⊎ (Joins x y u v × (d' v ≡ c))

-- every present segment was offered from u, whose note is du
pub record Relaxed (a b weights : List ℕ) (present : List Bool) (u du : ℕ) (d d' : ℕ → ℕ) : Type 0 where
  pub falls : (v : ℕ) → d' v ≤ d v
  pub most : (i v : ℕ) → i < length a → flag present i ≡ true → Joins (note a i) (note b i) u v
      → d' v ≤ du + note weights i
  pub from : (v : ℕ) → (d' v ≡ d v)
      ⊎ ((i : ℕ) × (i < length a) × (flag present i ≡ true) × Joins (note a i) (note b i) u v
      × (d' v ≡ du + note weights i))

-- the unsettled post of the least note, if that is below "none yet"
abbrev pub Nearest : ℕ → (ℕ → ℕ) → (ℕ → Bool) → Option ℕ → Type 0
Nearest posts d S None = (y : ℕ) → y < posts → S y ≡ false → none_yet ≤ d y
Nearest posts d S (Some u) = (u < posts) × (S u ≡ false) × (d u < none_yet)
    × ((y : ℕ) → y < posts → S y ≡ false → d u ≤ d y)

-- the lowest post whose note is "none yet", or none where every post has a note
abbrev pub LowestApart : ℕ → (ℕ → ℕ) → Option ℕ → Type 0
LowestApart posts d None = (v : ℕ) → v < posts → d v < none_yet
LowestApart posts d (Some u) = (u < posts) × ((v : ℕ) → v < u → d v < none_yet) × (none_yet ≤ d u)
