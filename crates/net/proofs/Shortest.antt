-- The shortest tree: what its entries say (`short_says`), that from each post with a route a climb leads to the source, of the least length
-- (`short_climb`), and that with its lengths it is all that a walk over any tree is owed (`owed`).
-- Only what a segment counts for where the tree is hung must be above 0.
use mathlib.Core.Path.{◌≡◌, refl, ap}
use mathlib.Core.Bool.{Bool, true}
use mathlib.Core.List.{List}
use Prim.Native.Nat.{ℕ, zero, suc, ◌+◌, ◌≤◌, ◌<◌}
use native.Mathlib.Omega.{arith}
use native.Mathlib.Decide.{ℕ_discrete}
use lib.ListN.{length}
use lib.Dec.{ltb}
use borrow.Author.Tests.{ltb-true, lt-ltb, le-ltb}
use Rattle.net.specs.Words.{sum, no_segment}
use Rattle.net.specs.Net.{length_at}
use Rattle.net.specs.Trees.{none_yet, at, least, hung, HangsBy, the_least_lengths, hanging_weight, shortest, entry, parent, Climb, arrived, up}
use Rattle.net.specs.Walk.{Given, child}
use Rattle.net.specs.declared.Segment.{Segment}
use Rattle.net.proofs.Words.{bit, counted_le, counted_mono}
use Rattle.net.proofs.Sums.{sum_lt, sum_ones}
use Rattle.net.proofs.Least.{Inside, leads_from, least_most}
use Rattle.net.proofs.Hung.{length_hung, hung_says, hung_hangs, hung_source, least_no_better, least_zero}
use Rattle.net.proofs.Notes.{DirectStep, Owed}

module _ (segs : List Segment) (ok : ℕ → Bool) (n s : ℕ) (inside : Inside segs ok n) (below : s < n) (few : length segs ≤ no_segment)
    (heavy : (i : ℕ) → i < length segs → ok i ≡ true → 1 ≤ hanging_weight segs i) where
  -- what the tree is hung by
  abbrev by : List ℕ
  by = least segs ok (hanging_weight segs) n s

  shortest_is : shortest segs ok n s ≡ hung segs ok (hanging_weight segs) n by
  unfolding shortest
  shortest_is = refl

  lengths_are : the_least_lengths segs ok n s ≡ least segs ok (length_at segs) n s
  unfolding the_least_lengths
  lengths_are = refl

  -- it is hung by the least lengths
  hung_by_lengths : by ≡ the_least_lengths segs ok n s
  unfolding the_least_lengths hanging_weight
  hung_by_lengths = refl

  pub length_shortest : length (shortest segs ok n s) ≡ n
  length_shortest = rw shortest_is (length_hung segs ok (hanging_weight segs) n few by)

  pub shortest_source : entry (shortest segs ok n s) s ≡ no_segment
  shortest_source = rw shortest_is (hung_source segs ok (hanging_weight segs) n inside few s below heavy)

  -- "Post v hangs by the lowest-numbered segment from some u with D(u) plus its length equal to D(v)."
  short_by : (v : ℕ) → v < n → (v ≡ s → ⊥) → at (the_least_lengths segs ok n s) v < none_yet → HangsBy segs ok (hanging_weight segs) by v (entry (shortest segs ok n s) v)
  short_by v h ne k =
      rw shortest_is
      (hung_says segs ok (hanging_weight segs) n few by v h
      (hung_hangs segs ok (hanging_weight segs) n inside few s below v h ne (omega (arith, ap (λ (l : List ℕ). at l v) hung_by_lengths))))

  pub short_says : (v : ℕ) → v < n → (v ≡ s → ⊥) → at (the_least_lengths segs ok n s) v < none_yet → HangsBy segs ok (length_at segs) (the_least_lengths segs ok n s) v (entry (shortest segs ok n s) v)
  unfolding the_least_lengths hanging_weight
  short_says v h ne k = short_by v h ne k

  -- how many posts are nearer than v
  rank : ℕ → ℕ
  rank v = sum n (λ u. bit (ltb (at by u) (at by v)))

  rank_falls : (u v : ℕ) → u < n → at by u < at by v → rank u < rank v
  unfolding rank
  rank_falls u v h k =
      sum_lt n (λ x. bit (ltb (at by x) (at by u))) (λ x. bit (ltb (at by x) (at by v)))
      (λ x p. counted_mono (ltb (at by x) (at by u)) (ltb (at by x) (at by v)) 1 (λ e. lt-ltb (at by x) (at by v) (omega (arith, ltb-true (at by x) (at by u) e))))
      u h (omega (arith, ap bit (le-ltb (at by u) (at by u) (omega arith)), ap bit (lt-ltb (at by u) (at by v) k)))

  rank_most : (v : ℕ) → v < n → rank v < n
  unfolding rank
  rank_most v h =
      omega (
        arith,
        sum_lt n (λ x. bit (ltb (at by x) (at by v))) (λ _. 1) (λ x p. counted_le (ltb (at by x) (at by v)) 1) v h (omega (arith, ap bit (le-ltb (at by v) (at by v) (omega arith)))),
        sum_ones n,
      )

  short_nearer : (v : ℕ) → v < n → (v ≡ s → ⊥) → at (the_least_lengths segs ok n s) v < none_yet → rank (parent segs (shortest segs ok n s) v) < rank v
  short_nearer v h ne k =
      let z = short_by v h ne k in
      rank_falls (parent segs (shortest segs ok n s) v) v (leads_from inside z.leads z.there)
      (omega (arith, z.adds, heavy (entry (shortest segs ok n s) v) z.leads.is_segment z.there))

  -- FROM EACH POST WITH A ROUTE A CLIMB OF THE LEAST LENGTH
  climb_from : (k v : ℕ) → rank v < k → v < n → at (the_least_lengths segs ok n s) v < none_yet → Climb segs ok (shortest segs ok n s) s v (at (the_least_lengths segs ok n s) v)
  climb_from zero v r h z = absurd (omega arith)
  climb_from (suc k) v r h z = elim (ℕ_discrete v s) [
    | yes e ↦ rw (e, d_source) (arrived refl)
    | no e ↦ go e (short_says v h e z) (λ u q. climb_from k u (omega (arith, q, short_nearer v h e z)))
  ]
    where
      d_source : at (the_least_lengths segs ok n s) s ≡ 0
      d_source = rw lengths_are (least_zero segs ok (length_at segs) n inside few s below)

      go : (v ≡ s → ⊥) → HangsBy segs ok (length_at segs) (the_least_lengths segs ok n s) v (entry (shortest segs ok n s) v)
          → ((u : ℕ) → rank u ≡ rank (parent segs (shortest segs ok n s) v) → u < n → at (the_least_lengths segs ok n s) u < none_yet → Climb segs ok (shortest segs ok n s) s u (at (the_least_lengths segs ok n s) u))
          → Climb segs ok (shortest segs ok n s) s v (at (the_least_lengths segs ok n s) v)
      go ne t ih =
          let u = parent segs (shortest segs ok n s) v in
          let c = up ne t.leads t.there (ih u refl (leads_from inside t.leads t.there) (omega (arith, t.adds))) in
          let e : length_at segs (entry (shortest segs ok n s) v) + at (the_least_lengths segs ok n s) u ≡ at (the_least_lengths segs ok n s) v = omega (arith, t.adds) in
          rw e at c

  pub short_climb : (v : ℕ) → v < n → at (the_least_lengths segs ok n s) v < none_yet → Climb segs ok (shortest segs ok n s) s v (at (the_least_lengths segs ok n s) v)
  short_climb v h z = climb_from (suc (rank v)) v (omega arith) h z

  -- A WALK OVER ANY TREE, at any ratios
  module _ (walked : List ℕ) (p q : ℕ → ℕ) where
    abbrev pub given : Given
    given = record { segments = segs; posts = n; walked = walked; shortest = shortest segs ok n s; D = the_least_lengths segs ok n s; p = p; q = q }

    direct_step : (v : ℕ) → v < n → (v ≡ s → ⊥) → at (the_least_lengths segs ok n s) v < none_yet → DirectStep given ok rank v
    direct_step v h ne k =
        let t = short_says v h ne k in
        record { leads = t.leads; there = t.there; adds = t.adds; nearer = short_nearer v h ne k }

    pub owed : ((v i : ℕ) → i < length segs → child given v i ≡ true → ok i ≡ true) → Owed given ok s
    owed walked_ok =
        record {
          inside = inside;
          below = below;
          few = few;
          walked_ok = walked_ok;
          d_zero = rw lengths_are (least_zero segs ok (length_at segs) n inside few s below);
          d_most = λ v h. rw lengths_are (least_most segs ok (length_at segs) n inside s v h);
          d_least = λ l o. rw lengths_are (least_no_better segs ok (length_at segs) n inside few s below l o);
          rank = rank;
          rank_most = rank_most;
          direct = direct_step;
        }
