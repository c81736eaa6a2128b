-- What the segments of a net take, one after the other: the loop that measures before anything is written. Relies on
-- Puts.
use Prim.Native.Nat.{ℕ, ◌+◌, ◌*◌, ◌<◌, ◌≤◌}
use mathlib.Core.Path.{◌≡◌, refl}
use mathlib.Core.List.{List}
use native.Mathlib.Omega.{arith}
use lib.ListN.{length, take, length-append}
use Rattle.net.specs.Net.{nth_segment}
use Rattle.net.specs.declared.Segment.{Segment}
use Rattle.writing.specs.Writing.{segment_written, segments_written}
use Rattle.writing.proofs.Puts.{segments_next}

-- THE LOOP: the first i segments take `size` bytes
pub record SizedTo (ss : List Segment) (size i : ℕ) : Type 0 where
  pub few : i ≤ length ss
  pub size_is : size ≡ length (segments_written (take i ss))
  pub small : size ≤ 12 * i

pub begin_size : (ss : List Segment) → SizedTo ss 0 0
unfolding segments_written
begin_size ss = record { few = omega arith; size_is = refl; small = omega arith }

module _ {ss : List Segment} {size i : ℕ} (p : SizedTo ss size i) where
  pub size_next : i < length ss → {s : Segment} → s ≡ nth_segment ss i → {x : ℕ} → x ≡ length (segment_written s) → x ≤ 12 → SizedTo ss (size + x) (i + 1)
  size_next h e f m =
      let n = p.size_is in
      let o = p.small in
      let g = rw e at f in
      record { few = omega arith; size_is = rw (segments_next ss i h, length-append) (omega arith); small = omega arith }
