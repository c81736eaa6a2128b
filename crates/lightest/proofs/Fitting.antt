-- A net as lists within the bounds (`Fit`): its segments are `segments_of` the lists, their ends are posts, and a list in order by the lengths
-- is in order by `net`'s (`fit_order`). `inside_fit` has it from `net`'s `Inside`. Rests on Segments and Ordering.
use mathlib.Core.Path.{◌≡◌, sym, ap, ◌∙◌}
use mathlib.Core.Bool.{Bool, true, false}
use mathlib.Core.List.{List}
use Prim.Native.Nat.{ℕ, ◌<◌, ◌≤◌}
use native.Mathlib.Omega.{arith}
use native.Mathlib.Decide.{dec_lt}
use lib.ListN.{length, get_or, get_or-eq_default}
use Rattle.net.specs.Words.{no_segment}
use Rattle.net.specs.Net.{segments_of, nth_segment, length_at}
use Rattle.net.specs.Trees.{none_yet}
use Rattle.net.specs.declared.Segment.{Segment}
use Rattle.net.proofs.Words.{clash}
use Rattle.net.proofs.Least.{Inside}
use Rattle.lightest.specs.Order.{length_in, InOrder}
use Rattle.lightest.specs.Marks.{there, Ends, Fit}
use Rattle.lightest.proofs.Ordering.{in_order_same}
use Rattle.net.proofs.Segments.{length_segments, segments_at}

-- the number of posts under another name
pub ends_of : {k n : ℕ} {a b : List ℕ} {present : List Bool} → k ≡ n → Ends n a b present → Ends k a b present
ends_of e z = rw e z

module _ {n : ℕ} {a b lengths : List ℕ} {present : List Bool} (fit : Fit n a b lengths present) where
  -- its segments
  abbrev segs : List Segment
  segs = segments_of a b lengths

  -- all lists are as long
  one_b : length b ≡ length lengths
  one_b = fit.ends.one_b ∙ fit.one_a

  -- as many segments as lengths
  pub fit_length : length segs ≡ length lengths
  fit_length = length_segments a b lengths (one_b ∙ sym fit.one_a) (sym fit.one_a) ∙ fit.one_a

  -- the ends of segment i
  pub end_a : (i : ℕ) → (nth_segment segs i).a ≡ get_or a i 0
  end_a i = ap (λ s. s.a) (segments_at a b lengths i (one_b ∙ sym fit.one_a) (sym fit.one_a))

  pub end_b : (i : ℕ) → (nth_segment segs i).b ≡ get_or b i 0
  end_b i = ap (λ s. s.b) (segments_at a b lengths i (one_b ∙ sym fit.one_a) (sym fit.one_a))

  -- the ends of the segments that are there are posts
  pub fit_inside : Inside segs (there present) n
  fit_inside = record { a_in = λ i h o. rw (end_a i) (fit.ends.a_in i o); b_in = λ i h o. rw (end_b i) (fit.ends.b_in i o) }

  -- a list in order by the lengths is in order by the net's
  pub fit_order : {numbers : List ℕ} → InOrder (length_in lengths) (length lengths) numbers → InOrder (length_at segs) (length segs) numbers
  unfolding length_in
  fit_order o =
      rw fit_length (in_order_same (length_in lengths) (length_at segs) (λ i. sym (ap (λ s. s.length) (segments_at a b lengths i (one_b ∙ sym fit.one_a) (sym fit.one_a)))) o)

  -- few enough posts and segments for the laws of `net`
  pub fit_small : n ≤ none_yet
  fit_small = let h = fit.few_posts in omega arith

  pub fit_few : length segs ≤ no_segment
  fit_few = let h = fit.few_segments in omega (arith, fit_length)

-- a segment that is there is one of the list
there_below : (present : List Bool) (i : ℕ) → there present i ≡ true → i < length present
there_below present i e = elim (dec_lt i (length present)) [
  | yes h ↦ h
  | no h ↦ absurd (clash e (get_or-eq_default present false (omega arith)))
]

-- WHERE IT COMES FROM: lists side by side of a net whose ends are posts, as checks 1 to 7 leave it
pub inside_fit : {n : ℕ} {a b lengths : List ℕ} {present : List Bool} → n ≤ no_segment → length lengths ≤ no_segment → length a ≡ length lengths → length b ≡ length lengths
    → length present ≡ length lengths → Inside (segments_of a b lengths) (there present) n → Fit n a b lengths present
inside_fit {n} {a} {b} {lengths} {present} hn hm ea eb ep inside =
    record {
      few_posts = hn;
      few_segments = hm;
      one_a = ea;
      ends = record {
        one_b = eb ∙ sym ea;
        one_present = ep ∙ sym ea;
        a_in = λ i o. rw (← ap (λ s. s.a) (segments_at a b lengths i (eb ∙ sym ea) (sym ea))) (inside.a_in i (below i o) o);
        b_in = λ i o. rw (← ap (λ s. s.b) (segments_at a b lengths i (eb ∙ sym ea) (sym ea))) (inside.b_in i (below i o) o);
      };
    }
  where
    below : (i : ℕ) → there present i ≡ true → i < length (segments_of a b lengths)
    below i o = let h = there_below present i o in omega (arith, length_segments a b lengths (eb ∙ sym ea) (sym ea))
