-- Which segments are there matters only below the segment count: present tests that agree there have the same belonging segments (`belonging_same`).
-- So marks over lists with every segment present are `belonging` over `every` (`belonging_every`). Rests on `net`'s Belongs and on Fitting.
use mathlib.Core.Path.{◌≡◌, sym, ◌∙◌}
use mathlib.Core.Bool.{Bool, true, false}
use mathlib.Core.List.{List}
use Prim.Native.Nat.{ℕ, ◌<◌, ◌≤◌}
use native.Mathlib.Omega.{arith}
use lib.ListN.{length}
use lib.Seq.{ext_get_or}
use Rattle.net.specs.Words.{no_segment}
use Rattle.net.specs.Net.{segments_of, before, every}
use Rattle.net.specs.Trees.{none_yet, belongs, belonging}
use Rattle.net.specs.declared.Segment.{Segment}
use Rattle.net.proofs.Words.{and_i, and_left, and_right, length_tab, tab_at}
use Rattle.net.proofs.Routes.{widen}
use Rattle.net.proofs.Least.{Inside, inside_part}
use Rattle.net.proofs.Belongs.{belongs_apart, apart_belongs, belongs_says, belongs_is}
use Rattle.lightest.specs.Marks.{there, Fit}
use Rattle.lightest.proofs.Fitting.{fit_length, fit_inside, fit_small, fit_few}
use Rattle.lightest.proofs.Passing.{same_test}

module _ (segs : List Segment) (n : ℕ) (small : n ≤ none_yet) (few : length segs ≤ no_segment) where
  -- a segment that belongs among some belongs among the same
  belongs_also : (ok ok' : ℕ → Bool) → ((j : ℕ) → j < length segs → ok j ≡ ok' j) → Inside segs ok n → Inside segs ok' n
      → (i : ℕ) → i < length segs → belongs segs ok n i ≡ true → belongs segs ok' n i ≡ true
  belongs_also ok ok' same inside inside' i h e =
      let z = belongs_says segs ok n inside small few i h e in
      belongs_is segs ok' n inside' small few i (apart_belongs segs ok' n i (sym (same i h) ∙ z.there)
      (λ c. belongs_apart segs ok n i z (widen segs (λ j k o. and_i (same j k ∙ and_left (ok' j) (before segs j i) o) (and_right (ok' j) (before segs j i) o)) c)))

  -- present tests that agree on the segments have the same belonging ones
  pub belonging_same : (ok ok' : ℕ → Bool) → ((j : ℕ) → j < length segs → ok j ≡ ok' j) → Inside segs ok n → belonging segs ok n ≡ belonging segs ok' n
  unfolding belonging
  belonging_same ok ok' same inside =
      ext_get_or false (belonging segs ok n) (belonging segs ok' n) (length_tab (belongs segs ok n) (length segs) ∙ sym (length_tab (belongs segs ok' n) (length segs)))
      (λ i h. let g : i < length segs = omega (arith, length_tab (belongs segs ok n) (length segs)) in
      tab_at (belongs segs ok n) (length segs) i false g ∙ agree i g ∙ sym (tab_at (belongs segs ok' n) (length segs) i false g))
    where
      inside' : Inside segs ok' n
      inside' = inside_part (λ j h o. same j h ∙ o) inside

      agree : (i : ℕ) → i < length segs → belongs segs ok n i ≡ belongs segs ok' n i
      agree i h = same_test (belongs segs ok n i) (belongs segs ok' n i) (belongs_also ok ok' same inside inside' i h) (belongs_also ok' ok (λ j k. sym (same j k)) inside' inside i h)

-- where all are present, the belonging segments are those of the whole net
pub belonging_every : {n : ℕ} {a b lengths : List ℕ} {present : List Bool} → Fit n a b lengths present → ((j : ℕ) → j < length lengths → there present j ≡ true)
    → belonging (segments_of a b lengths) (there present) n ≡ belonging (segments_of a b lengths) every n
belonging_every {n} {a} {b} {lengths} {present} fit all =
    belonging_same (segments_of a b lengths) n (fit_small fit) (fit_few fit) (there present) every (λ j h. all j (omega (arith, fit_length fit))) (fit_inside fit)
