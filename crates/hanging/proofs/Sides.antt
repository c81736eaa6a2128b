-- The code's lists, side by side, are the segments of `net`: how many they are, and what each is. Rests on specs/Lists.
use mathlib.Core.Path.{◌≡◌}
use mathlib.Core.Bool.{Bool}
use mathlib.Core.List.{List}
use Prim.Native.Nat.{ℕ}
use lib.ListN.{length}
use Rattle.net.specs.Net.{segments_of}
use Rattle.net.proofs.Segments.{length_segments, Are, segments_are}
use Rattle.hanging.specs.Lists.{Sides}

module _ {posts : ℕ} {a b weights : List ℕ} {present : List Bool} (z : Sides posts a b weights present) where
  pub sides_many : length (segments_of a b weights) ≡ length a
  sides_many = length_segments a b weights z.ends.b_many z.weights_many

  pub sides_are : Are a b weights
  sides_are = segments_are a b weights z.ends.b_many z.weights_many
