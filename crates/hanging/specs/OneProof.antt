-- That a tree list is as `paths_of` asks is a fact with one proof, since a way up is one and has one length: so a
-- struct may carry it. Rests on `Paths` and on `net`'s segments.
use mathlib.Core.Path.{◌≡◌, refl, sym, ap, ◌∙◌}
use mathlib.Core.List.{List}
use Rattle.std.specs.Borrow.{Bor}
use Rattle.std.specs.Coded.{le_prop}
use mathlib.Core.HLevel.{×_prop, ×₃_prop, Σ_prop_path, Π_prop}
use denote.Struct.Props.{props}
use native.Mathlib.Omega.{arith}
use Prim.Native.Nat.{ℕ, zero, suc, ◌<◌, ◌≤◌}
use lib.ListN.{length, get_or, take}
use Rattle.net.specs.Words.{no_segment}
use Rattle.net.specs.Net.{most_posts, most_segments, longest}
use Rattle.net.specs.Trees.{entry, parent}
use Rattle.net.specs.Ready.{segments_in}
use Rattle.net.specs.declared.Segment.{Segment}
use Rattle.net.specs.declared.SegmentLists.{SegmentLists}
use Rattle.net.proofs.Segments.{length_segments}
use Rattle.hanging.specs.Lists.{Short}
use Rattle.hanging.specs.Paths.{Up, top, on, Rooted, ListedIn}

module _ (segs : List Segment) (n : ℕ) (t : List ℕ) where
  -- a way up, told step by step
  Way : ℕ → ℕ → Type 0
  Way zero v = entry t v ≡ no_segment
  Way (suc k) v = (entry t v < length segs) × (parent segs t v < n) × Way k (parent segs t v)

  way_prop : (k v : ℕ) → IsProp (Way k v)
  unfolding Way
  way_prop zero v = hlevel props
  way_prop (suc k) v = ×₃_prop le_prop le_prop (way_prop k (parent segs t v))

  told : {k v : ℕ} → Up segs n t k v → Way k v
  unfolding Way
  told (top e) = e
  told (on l p u) = (l, p, told u)

  led : (k v : ℕ) → Way k v → Up segs n t k v
  unfolding Way
  led zero v w = top w
  led (suc k) v w = on w.0 w.1 (led k (parent segs t v) w.2)

  led_told : {k v : ℕ} (u : Up segs n t k v) → led k v (told u) ≡ u
  unfolding Way led told
  led_told (top e) = refl
  led_told (on l p u) = ap (on l p) (led_told u)

  up_prop : (k v : ℕ) → IsProp (Up segs n t k v)
  up_prop k v x y = sym (led_told x) ∙ ap (led k v) (way_prop k v (told x) (told y)) ∙ led_told y

  as_long : length segs ≤ no_segment → {k j v : ℕ} → Up segs n t k v → Up segs n t j v → k ≡ j
  as_long few (top e) (top f) = refl
  as_long few (top e) (on l p u) = absurd (omega arith)
  as_long few (on l p u) (top e) = absurd (omega arith)
  as_long few (on l p u) (on m q w) = ap suc (as_long few u w)

  one_end : length segs ≤ no_segment → (v : ℕ) → IsProp ((k : ℕ) × ((k ≤ n) × Up segs n t k v))
  one_end few v x y =
      Σ_prop_path {B = λ (k : ℕ). (k ≤ n) × Up segs n t k v} (λ k. ×_prop le_prop (up_prop k v))
      (as_long few x.1.1 y.1.1)

  rooted_prop : length segs ≤ no_segment → IsProp (Rooted segs n t)
  rooted_prop few x y = λ i. record { ends = Π_prop (λ v. Π_prop (λ h. end_prop v)) x.ends y.ends i }
    where
      flat : (v : ℕ) → (k : ℕ) × ((k ≤ n) × Up segs n t k v) → (k : ℕ) × (k ≤ n) × Up segs n t k v
      flat v w = (w.0, w.1.0, w.1.1)

      end_prop : (v : ℕ) → IsProp ((k : ℕ) × (k ≤ n) × Up segs n t k v)
      end_prop v p q = ap (flat v) (one_end few v (p.0, (p.1, p.2)) (q.0, (q.1, q.2)))

short_prop : (lengths : List ℕ) → IsProp (Short lengths)
short_prop lengths x y =
    let most_prop : IsProp ((i : ℕ) → i < length lengths → get_or lengths i 0 ≤ longest) = hlevel props in
    λ i. record { most = most_prop x.most y.most i }

pub listed_prop : (n : ℕ) (s : SegmentLists) (tree : Bor (List ℕ)) → IsProp (ListedIn n s tree)
listed_prop n s tree x y =
    let few_segments = length_segments s.a.now s.b.now s.lengths.now x.b_many x.lengths_many in
    let few_posts_prop : IsProp (n ≤ most_posts) = hlevel props in
    let entries_prop : IsProp (n ≤ length tree.now) = hlevel props in
    let few_prop : IsProp (length s.a.now ≤ most_segments) = hlevel props in
    let b_many_prop : IsProp (length s.b.now ≡ length s.a.now) = hlevel props in
    let lengths_many_prop : IsProp (length s.lengths.now ≡ length s.a.now) = hlevel props in
    let ways_prop : IsProp (Rooted (segments_in s) n (take n tree.now)) = rooted_prop _ _ _ (omega arith) in
    λ i. record {
      few_posts = few_posts_prop x.few_posts y.few_posts i;
      entries = entries_prop x.entries y.entries i;
      few = few_prop x.few y.few i;
      b_many = b_many_prop x.b_many y.b_many i;
      lengths_many = lengths_many_prop x.lengths_many y.lengths_many i;
      short = short_prop s.lengths.now x.short y.short i;
      rooted = ways_prop x.rooted y.rooted i;
    }
