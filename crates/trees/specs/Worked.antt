-- What the trees are worked out from, marks that are all true, the least lengths and the shortest tree; and what their
-- preparation leaves (`Prepares`). Relies on net's definitions; the contracts of this crate cite it.
use Rattle.std.specs.Prelude.{◌≡◌, Bool, true, false, List, Result, Ok, Err, ℕ, ◌<◌, length, get_or}
use Rattle.std.proofs.Math.Option.{none, some}
use Rattle.net.specs.Net.{Net, every}
use Rattle.net.specs.Refusals.{refusal, first, joined_lines}
use Rattle.net.specs.Building.{lightest_of, shortest_of, least_lengths_of, between_of, laid_of, joined_to_source}
use Rattle.net.specs.declared.Refusal.{Refusal}

-- a mark for each of m segments, and all of them true
pub record AllThere (present : List Bool) (m : ℕ) : Type 0 where
  pub one_each : length present ≡ m
  pub all_true : (j : ℕ) → j < m → get_or present j false ≡ true

-- the least lengths and the shortest tree of a net
pub record Worked (n : Net) (dist short : List ℕ) : Type 0 where
  pub lengths_are : dist ≡ least_lengths_of every n
  pub tree_is : short ≡ shortest_of every n

-- the three trees of a net
pub record ThreeTrees (n : Net) (light short third : List ℕ) : Type 0 where
  pub light_is : light ≡ lightest_of every n
  pub short_is : short ≡ shortest_of every n
  pub third_is : third ≡ between_of every n

-- left of a net whose posts are all joined: nothing for 9, its trees, and the count of laid paths
pub record LeftJoined (n : Net) (laid : ℕ) (light short third : List ℕ) : Type 0 where
  pub none_apart : first (joined_lines n.head.posts (joined_to_source every n)) ≡ none
  pub trees : ThreeTrees n light short third
  pub laid_is : laid ≡ length (laid_of every n)

-- left of a net with a post that isn't joined, v the lowest: 9 is given there, and two lists are as they were
pub record LeftApart (n : Net) (v : ℕ) (light third light' third' : List ℕ) : Type 0 where
  pub nine : first (joined_lines n.head.posts (joined_to_source every n)) ≡ some (refusal 9 v)
  pub light_kept : light' ≡ light
  pub third_kept : third' ≡ third

-- THE PREPARATION, where two of the four lists held light and third: its answer r, the count of laid paths or 9, and
-- what the lists hold then
pub record Prepares (n : Net) (light third : List ℕ) (r : Result ℕ Refusal) (dist light' short third' : List ℕ) : Type 0
  where
    pub worked : Worked n dist short
    pub apart : {e : Refusal} → r ≡ Err e → (v : ℕ) × (e ≡ refusal 9 v) × LeftApart n v light third light' third'
    pub joined : {laid : ℕ} → r ≡ Ok laid → LeftJoined n laid light' short third'
