-- The walk along the segments that belong, from the source: which posts are reached, in a queue in the order in which
-- they were, and how more are. The contracts of the walk's steps cite it. Relies on net's words, on hanging's lists and
-- on shortest's `Joins`.
use Rattle.std.specs.Prelude.{◌≡◌, Bool, true, false, List, ◌⊎◌, ℕ, ◌+◌, ◌<◌, ◌≤◌, length, set}
use Rattle.net.specs.Words.{no_segment, sum, counted}
use Rattle.net.specs.Net.{most_posts}
use Rattle.hanging.specs.Lists.{flag, note}
use Rattle.shortest.specs.Notes.{Joins}
use Rattle.net.specs.declared.SegmentLists.{SegmentLists}
use Rattle.trees.specs.declared.Reached.{Reached}

-- where a segment of the ends x and y leads from u, or u itself where neither end is u
pub record Across (x y u r : ℕ) : Type 0 where
  pub all : (v : ℕ) → Joins x y u v → r ≡ v
  pub one : Joins x y u r ⊎ (r ≡ u)

-- the reached posts of n are the first `count` of the queue, no post twice, and the others hang by none
pub record Reaching (n count : ℕ) (reached : List Bool) (queue tree : List ℕ) : Type 0 where
  pub few : n ≤ most_posts
  pub entries : length tree ≡ n
  pub flags : n ≤ length reached
  pub places : n ≤ length queue
  pub many : count ≤ sum n (λ v. counted (flag reached v) 1)
  pub queued : (j : ℕ) → j < count → (note queue j < n) × (flag reached (note queue j) ≡ true)
  pub each : (v : ℕ) → v < n → flag reached v ≡ true → (j : ℕ) × (j < count) × (note queue j ≡ v)
  pub bare : (v : ℕ) → v < n → flag reached v ≡ false → note tree v ≡ no_segment

-- at first only the source s is reached, and every post hangs by none
pub record Begun (n s : ℕ) (reached : List Bool) (queue tree : List ℕ) : Type 0 where
  pub reaching : Reaching n 1 reached queue tree
  pub source_in : flag reached s ≡ true
  pub no_other : (v : ℕ) → flag reached v ≡ true → v ≡ s
  pub none_hung : (v : ℕ) → v < n → note tree v ≡ no_segment

-- w is reached by segment i, unless it was reached
pub data Stepped (w i count : ℕ) (reached : List Bool) (queue tree : List ℕ)
    : ℕ → List Bool → List ℕ → List ℕ → Type 0 where
  already : flag reached w ≡ true → Stepped w i count reached queue tree count reached queue tree
  newly : flag reached w ≡ false
      → Stepped w i count reached queue tree (count + 1) (set reached w true) (set queue count w) (set tree w i)

-- some posts more were reached from u, each by a marked segment that leads to it from there
pub record Grows (a b : List ℕ) (marks : List Bool) (u count : ℕ) (reached : List Bool) (queue tree : List ℕ)
    (count' : ℕ) (reached' : List Bool) (queue' tree' : List ℕ) : Type 0 where
  pub up_to : count ≤ count'
  pub in_place : (j : ℕ) → j < count → note queue' j ≡ note queue j
  pub still : (v : ℕ) → flag reached v ≡ true → flag reached' v ≡ true
  pub hung : (v : ℕ) → flag reached v ≡ true → note tree' v ≡ note tree v
  pub new : (v : ℕ) → flag reached v ≡ false → flag reached' v ≡ true
      → (i : ℕ) × (i < length a) × (flag marks i ≡ true) × Joins (note a i) (note b i) u v × (note tree' v ≡ i)

-- wherever a marked segment leads from u is reached
pub record Crossed (a b : List ℕ) (marks : List Bool) (u : ℕ) (reached : List Bool) : Type 0 where
  pub all : (i v : ℕ) → i < length a → flag marks i ≡ true → Joins (note a i) (note b i) u v → flag reached v ≡ true

-- THE SAME OF A WALK as the code holds it
abbrev pub ReachingIn : ℕ → Reached → List ℕ → Type 0
ReachingIn n w tree = Reaching n w.count w.flags.now w.queue.now tree

abbrev pub SteppedIn : (w i : ℕ) → Reached → List ℕ → Reached → List ℕ → Type 0
SteppedIn w i x tree y tree' = Stepped w i x.count x.flags.now x.queue.now tree y.count y.flags.now y.queue.now tree'

abbrev pub GrowsIn : SegmentLists → List Bool → ℕ → Reached → List ℕ → Reached → List ℕ → Type 0
GrowsIn s marks u x tree y tree' = Grows s.a.now s.b.now marks u x.count x.flags.now x.queue.now tree
    y.count y.flags.now y.queue.now tree'
