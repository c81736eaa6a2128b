-- What the least lengths of a ready net say of 9: its lowest post that isn't joined, or none.
use mathlib.Core.Path.{◌≡◌, refl, sym, ◌∙◌}
use mathlib.Core.Bool.{true}
use mathlib.Core.List.{List, [], ◌++◌, append-nil}
use mathlib.Core.Option.{none, some}
use Prim.Native.Nat.{ℕ, ◌≤◌, ◌<◌}
use lib.ListN.{length}
use Rattle.std.specs.Prelude.{None, Some}
use Rattle.net.specs.Net.{every, segments_of, length_at, longest}
use Rattle.net.specs.Refusals.{refusal, first, joined_lines}
use Rattle.net.specs.Trees.{the_least_lengths, joined}
use Rattle.net.specs.Building.{joined_to_source, least_lengths_of}
use Rattle.net.specs.declared.Head.{Head}
use Rattle.hanging.specs.Lists.{note}
use Rattle.shortest.specs.Notes.{LowestApart}
use Rattle.shortest.proofs.Apart.{apart_none, apart_some}
use Rattle.hanging.proofs.Measures.{short_segments}
use Rattle.net.specs.Ready.{net_at, Ready}
use Rattle.net.proofs.Ready.{ready_inside, ready_source, ready_posts}
use Rattle.trees.specs.Worked.{Worked}
use Rattle.trees.proofs.Ready.{ready_short, dist_long}

-- 9: d are the least lengths
module _ {head : Head} {p q a b lengths : List ℕ} (r : Ready head p q a b lengths) {d s : List ℕ} (w : Worked (net_at head p q a b lengths) d s) where
  short_all : (i : ℕ) → i < length (segments_of a b lengths) → every i ≡ true → length_at (segments_of a b lengths) i ≤ longest
  short_all i h k = short_segments a b lengths r.b_level r.lengths_level (ready_short r) i

  d_is : d ≡ the_least_lengths (segments_of a b lengths) every head.posts head.source ++ []
  unfolding least_lengths_of
  d_is = w.lengths_are ∙ sym (append-nil _)

  joined_same : (v : ℕ) → joined_to_source every (net_at head p q a b lengths) v ≡ joined (segments_of a b lengths) head.posts every head.source v
  unfolding joined_to_source
  joined_same v = refl

  -- "lowest such post"
  pub table_apart : (v : ℕ) → LowestApart (length d) (note d) (Some v) → first (joined_lines head.posts (joined_to_source every (net_at head p q a b lengths))) ≡ some (refusal 9 v)
  table_apart v z =
      apart_some (segments_of a b lengths) every head.posts (ready_inside r) head.source (ready_source r) (ready_posts r) short_all d [] d_is (joined_to_source every (net_at head p q a b lengths)) joined_same (rw (dist_long r refl w) at z)

  -- every post is joined
  pub table_joined : LowestApart (length d) (note d) None → first (joined_lines head.posts (joined_to_source every (net_at head p q a b lengths))) ≡ none
  table_joined z =
      apart_none (segments_of a b lengths) every head.posts (ready_inside r) head.source (ready_source r) (ready_posts r) short_all d [] d_is (joined_to_source every (net_at head p q a b lengths)) joined_same (rw (dist_long r refl w) at z)
