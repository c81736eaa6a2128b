-- What a walk comes to, over any tree that is given and any ratios: each post of the tree walked is reached, by a climb within its limit (`between_climb`);
-- the two inequalities of the laid paths' cost (`between_length` of Length, and `laid_twice`), and from them the length's bound against the tree walked (`between_weight`).
use mathlib.Core.Path.{◌≡◌}
use mathlib.Core.Bool.{Bool, true}
use mathlib.Core.List.{List}
use Prim.Native.Nat.{ℕ, suc, ◌+◌, ◌*◌, ◌≤◌, ◌<◌}
use native.Mathlib.Omega.{arith}
use native.Mathlib.Nat.{mul-le-mul_left, mul-add, add-mul, mul_assoc, mul_left_comm, le_trans}
use lib.ListN.{length}
use Rattle.net.specs.Words.{no_segment}
use Rattle.net.specs.Net.{other, weigh}
use Rattle.net.specs.Trees.{none_yet, at, entry, Climb, the_path_in, whole}
use Rattle.net.specs.Walk.{Notes, Given, at_start, child, walk}
use Rattle.net.proofs.Climbs.{falling_climb, climb_path}
use Rattle.net.proofs.Notes.{Owed}
use Rattle.net.proofs.Tour.{Down, tour_enters, fine_walk, entered_limit}
use Rattle.net.proofs.Cost.{Small, laid_cost, entered_near}
use Rattle.net.proofs.Length.{between_length}
use Rattle.net.proofs.Twice.{tour_twice}

-- a path of the tree t from v up to the source, and that it is within the ratio p/q of D
pub record Within (g : Given) (ok : ℕ → Bool) (s : ℕ) (t : List ℕ) (v : ℕ) : Type 0 where
  pub climb : Climb g.segments ok t s v (the_path_in g.segments g.posts t v)
  pub limit : g.q v * the_path_in g.segments g.posts t v ≤ (g.p v + g.q v) * at g.D v

module _ (g : Given) (ok : ℕ → Bool) (s : ℕ) (owed : Owed g ok s) (depth : ℕ → ℕ)
    (deeper : (v i : ℕ) → i < length g.segments → child g v i ≡ true → depth (other g.segments i v) ≡ suc (depth v)) where
  abbrev walked : Notes
  walked = walk g g.posts s (at_start g.posts s)

  pub length_between : length walked.entries ≡ g.posts
  length_between = (fine_walk g ok s owed g.posts).entries_long

  pub between_source : entry walked.entries s ≡ no_segment
  between_source = (fine_walk g ok s owed g.posts).source_free

  -- EACH POST OF THE TREE WALKED IS REACHED, WITHIN ITS LIMIT
  pub between_climb : 2 * whole g.segments g.posts g.walked < none_yet → (v j : ℕ) → v < g.posts → Down g s j v → j < g.posts → Within g ok s walked.entries v
  between_climb light v j h d k =
      let f = fine_walk g ok s owed g.posts in
      let e = tour_enters g g.posts d k in
      let noted : at walked.d v < none_yet = omega (arith, entered_near g ok s owed g.posts v e, tour_twice g ok s owed depth deeper g.posts s) in
      let c = falling_climb g.segments ok s walked.entries (λ x. at walked.d x) (f.upward v h noted) in
      let p = climb_path g.segments ok walked.entries s g.posts owed.inside owed.few f.source_free h c.1 in
      record {
        climb = rw p c.1;
        limit = rw p (le_trans (mul-le-mul_left (g.q v) c.2) (entered_limit g ok s owed g.posts v e));
      }

  module _ (p q : ℕ) (small : Small g ok s owed p q walked.laid) where
    -- p × the least lengths of the posts laid ≤ 2q × the tree walked
    pub laid_twice : p * weigh (at g.D) walked.laid ≤ 2 * q * whole g.segments g.posts g.walked
    laid_twice =
        let T = whole g.segments g.posts g.walked in
        omega (
          arith,
          laid_cost g ok s owed p q g.posts small,
          mul-le-mul_left q (tour_twice g ok s owed depth deeper g.posts s),
          mul_assoc 2 q T,
          mul_left_comm q 2 T,
        )

    -- p × length ≤ (p + 2q) × the tree walked
    pub between_weight : p * whole g.segments g.posts walked.entries ≤ (p + 2 * q) * whole g.segments g.posts g.walked
    between_weight =
        let T = whole g.segments g.posts g.walked in
        omega (
          arith,
          mul-le-mul_left p (between_length g ok s owed g.posts),
          laid_twice,
          mul-add p T (weigh (at g.D) walked.laid),
          add-mul p (2 * q) T,
        )
