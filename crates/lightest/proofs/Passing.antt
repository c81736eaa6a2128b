-- Passing the segments in order: those passed are exactly those before the next (`passed_earlier`), so the next belongs exactly if it is there and
-- its ends share no part (`belongs_absent`, `belongs_within`, `belongs_joins`). Rests on Ordering, Parts and `net`'s Belongs.
use mathlib.Core.Path.{◌≡◌, refl, sym, ap, ◌∙◌}
use mathlib.Core.Bool.{Bool, true, false, ◌&&◌, ◌||◌, or-false, or_assoc}
use mathlib.Core.List.{List, [], ◌∷◌, ◌++◌}
use mathlib.Core.Logic.{◌⊎◌, inl, inr}
use Prim.Native.Nat.{ℕ, zero, suc, ◌+◌, ◌<◌, ◌≤◌}
use native.Mathlib.Omega.{arith}
use native.Mathlib.Numerals.{add-one}
use lib.ListN.{length, get_or, take}
use lib.Seq.{take-suc}
use lib.Dec.{eqb}
use borrow.Author.Tests.{eqb-true, eq-eqb}
use Rattle.net.specs.Words.{no_segment}
use Rattle.net.specs.Net.{nth_segment, length_at, before}
use Rattle.net.specs.Trees.{none_yet, earlier, belongs}
use Rattle.net.specs.declared.Segment.{Segment}
use Rattle.net.proofs.Words.{or_left, or_right, or_cases, clash, so_false}
use Rattle.net.proofs.Least.{Inside}
use Rattle.net.proofs.Routes.{widen}
use Rattle.net.proofs.Belongs.{belongs_apart, apart_belongs, before_says, says_before, belongs_says, belongs_is}
use Rattle.lightest.specs.Order.{Has, Sooner, Ordered, InOrder}
use Rattle.lightest.specs.Parts.{share, JoinedParts}
use Rattle.lightest.proofs.Ordering.{all_at, all_has, at_has, not_self, not_both}
use Rattle.lightest.proofs.Parts.{Parts, plus, parts_same, parts_within, parts_joined}

-- THE SEGMENTS PASSED
-- j is in the list, as a test
abbrev pub has : List ℕ → ℕ → Bool
has [] j = false
has (x ∷ l) j = eqb j x || has l j

-- a member passes
pub says_has : (l : List ℕ) (j : ℕ) → Has j l → has l j ≡ true
says_has [] j h = elim h [ ]
says_has (x ∷ l) j (inl e) = or_left (eqb j x) (has l j) (eq-eqb j x e)
says_has (x ∷ l) j (inr h) = or_right (eqb j x) (has l j) (says_has l j h)

-- one more at the end
has_snoc : (l : List ℕ) (e j : ℕ) → has (l ++ (e ∷ [])) j ≡ (has l j || eqb j e)
has_snoc [] e j = or-false (eqb j e)
has_snoc (x ∷ l) e j = ap (λ t. eqb j x || t) (has_snoc l e j) ∙ sym (or_assoc (eqb j x) (has l j) (eqb j e))

-- one more place of a list
pub has_more : (l : List ℕ) (k j : ℕ) → k < length l → has (take (k + 1) l) j ≡ (has (take k l) j || eqb j (get_or l k 0))
has_more l k j h = rw (add-one, take-suc l k 0 h) (has_snoc (take k l) (get_or l k 0) j)

module _ (long : ℕ → ℕ) where
  -- what stands in front of a place of an ordered list comes before what stands there
  taken_sooner : (l : List ℕ) → Ordered long l → (k : ℕ) → k < length l → (j : ℕ) → has (take k l) j ≡ true → Sooner long j (get_or l k 0)
  taken_sooner [] o k h j e = absurd (omega arith)
  taken_sooner (x ∷ l) o zero h j e = absurd (clash e refl)
  taken_sooner (x ∷ l) o (suc k) h j e = go (or_cases (eqb j x) (has (take k l) j) e) (taken_sooner l o.1 k (omega arith) j)
    where
      go : (eqb j x ≡ true) ⊎ (has (take k l) j ≡ true) → (has (take k l) j ≡ true → Sooner long j (get_or l k 0)) → Sooner long j (get_or l k 0)
      go (inl q) f = rw (eqb-true j x q) (all_at (Sooner long x) l k o.0 (omega arith))
      go (inr q) f = f q

  -- and what comes before it stands in front
  sooner_taken : (l : List ℕ) → Ordered long l → (k : ℕ) → k < length l → (j : ℕ) → Has j l → Sooner long j (get_or l k 0) → has (take k l) j ≡ true
  sooner_taken [] o k h j g s = absurd (omega arith)
  sooner_taken (x ∷ l) o zero h j (inl e) s = absurd (not_self long x (rw e at s))
  sooner_taken (x ∷ l) o zero h j (inr g) s = absurd (not_both long x j (all_has (Sooner long x) j l o.0 g) s)
  sooner_taken (x ∷ l) o (suc k) h j (inl e) s = or_left (eqb j x) (has (take k l) j) (eq-eqb j x e)
  sooner_taken (x ∷ l) o (suc k) h j (inr g) s = or_right (eqb j x) (has (take k l) j) (sooner_taken l o.1 k (omega arith) j g s)

-- the segments of the list that are there
abbrev pub passed : (ℕ → Bool) → List ℕ → ℕ → Bool
passed ok l j = ok j && has l j

-- two tests that pass together
pub same_test : (s t : Bool) → (s ≡ true → t ≡ true) → (t ≡ true → s ≡ true) → s ≡ t
same_test true t f g = sym (f refl)
same_test false true f g = g refl
same_test false false f g = refl

-- c && h, with one more passing the second test
add_absent : (c h t : Bool) → (t ≡ true → c ≡ false) → c && h ≡ c && (h || t)
add_absent false h t f = refl
add_absent true h true f = absurd (clash refl (f refl))
add_absent true h false f = sym (or-false h)

add_there : (c h t : Bool) → (t ≡ true → c ≡ true) → (c && h) || t ≡ c && (h || t)
add_there true h t f = refl
add_there false h true f = absurd (clash (f refl) refl)
add_there false h false f = refl

-- A TURN: of a net within bounds and its segments in order, k are passed, and there is a next
pub record Turn (segs : List Segment) (ok : ℕ → Bool) (n : ℕ) (numbers : List ℕ) (k : ℕ) : Type 0 where
  pub inside : Inside segs ok n
  pub small : n ≤ none_yet
  pub few : length segs ≤ no_segment
  pub in_order : InOrder (length_at segs) (length segs) numbers
  pub more : k < length numbers

module _ {segs : List Segment} {ok : ℕ → Bool} {n : ℕ} {numbers : List ℕ} {k : ℕ} (t : Turn segs ok n numbers k) where
  -- the next segment
  abbrev next : ℕ
  next = get_or numbers k 0

  -- it is one of the net's
  pub next_segment : next < length segs
  next_segment = t.in_order.only next (at_has numbers k t.more)

  -- those passed are those before it
  pub passed_earlier : (j : ℕ) → j < length segs → passed ok (take k numbers) j ≡ earlier segs ok n next j
  passed_earlier j h =
      ap (λ x. ok j && x)
      (same_test (has (take k numbers) j) (before segs j next)
      (λ e. says_before segs j next (taken_sooner (length_at segs) numbers t.in_order.ordered k t.more j e))
      (λ e. sooner_taken (length_at segs) numbers t.in_order.ordered k t.more j (t.in_order.all j h) (before_says segs j next e)))

  -- a segment that is not there adds nothing to them, and any other adds itself
  passed_absent : ok next ≡ false → (j : ℕ) → passed ok (take k numbers) j ≡ passed ok (take (k + 1) numbers) j
  passed_absent e j =
      add_absent (ok j) (has (take k numbers) j) (eqb j next) (λ q. ap ok (eqb-true j next q) ∙ e) ∙ ap (λ x. ok j && x) (sym (has_more numbers k j t.more))

  passed_there : ok next ≡ true → (j : ℕ) → plus (passed ok (take k numbers)) next j ≡ passed ok (take (k + 1) numbers) j
  passed_there e j =
      add_there (ok j) (has (take k numbers) j) (eqb j next) (λ q. ap ok (eqb-true j next q) ∙ e) ∙ ap (λ x. ok j && x) (sym (has_more numbers k j t.more))

  -- WHETHER IT BELONGS
  pub belongs_absent : ok next ≡ false → belongs segs ok n next ≡ false
  unfolding belongs
  belongs_absent e = rw e

  module _ {labels : List ℕ} (p : Parts segs (passed ok (take k numbers)) n labels) where
    -- it is not there: the parts stay
    pub parts_absent : ok next ≡ false → Parts segs (passed ok (take (k + 1) numbers)) n labels
    parts_absent e = parts_same segs (λ j h. passed_absent e j) p

    module _ (e : ok next ≡ true) where
      ha : (nth_segment segs next).a < n
      ha = t.inside.a_in next next_segment e

      hb : (nth_segment segs next).b < n
      hb = t.inside.b_in next next_segment e

      -- its ends share a part: it does not, and the parts stay
      pub belongs_within : share labels (nth_segment segs next).a (nth_segment segs next).b ≡ true → belongs segs ok n next ≡ false
      belongs_within q =
          so_false (belongs segs ok n next)
          (λ z. belongs_apart segs ok n next (belongs_says segs ok n t.inside t.small t.few next next_segment z)
          (widen segs (λ j h s. sym (passed_earlier j h) ∙ s) (p.share_chain (nth_segment segs next).a (nth_segment segs next).b ha hb q)))

      pub passed_within : share labels (nth_segment segs next).a (nth_segment segs next).b ≡ true → Parts segs (passed ok (take (k + 1) numbers)) n labels
      passed_within q = parts_same segs (λ j h. passed_there e j) (parts_within segs p next next_segment ha hb q)

      -- they share none: it does, and the two parts are one
      pub belongs_joins : share labels (nth_segment segs next).a (nth_segment segs next).b ≡ false → belongs segs ok n next ≡ true
      belongs_joins q =
          belongs_is segs ok n t.inside t.small t.few next (apart_belongs segs ok n next e
          (λ c. clash (p.chain_share (nth_segment segs next).a (nth_segment segs next).b ha hb (widen segs (λ j h s. passed_earlier j h ∙ s) c)) q))

      pub passed_joins : {new : List ℕ} → JoinedParts labels (nth_segment segs next).a (nth_segment segs next).b new → Parts segs (passed ok (take (k + 1) numbers)) n new
      passed_joins j = parts_same segs (λ i h. passed_there e i) (parts_joined segs p next next_segment ha hb j)
