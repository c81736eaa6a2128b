-- Parts of a room: the one that a number fills, and the one that a number's writer hands back. Relies on specs/Putting.
use Prim.Native.Nat.{ℕ, ◌+◌, ◌-◌, ◌<◌, ◌≤◌}
use mathlib.Core.Path.{◌≡◌, refl, sym, ap, ◌∙◌}
use mathlib.Core.List.{List, [], append-nil}
use native.Mathlib.Omega.{arith}
use lib.ListN.{length, take, length-append, length-drop, drop_of_length-le}
use lib.Seq.{take_at, drop-drop}
use borrow.Author.Tests.{lt-ltb, le-ltb, le-leb, lt-leb}
use borrow.Rule.Slice.PartMut.{put_mid}
use Rattle.numbers.specs.Numbers.{most_numbers, written}
use Rattle.numbers.specs.Putting.{onto, put, part_of}

-- a run that fills a part is put at the part's start in the whole
pub put_filled : (l : List ℕ) (at : ℕ) (w : List ℕ) {last : List ℕ} {size : ℕ} → last ≡ w → size ≡ length w → put_mid at (at + size - at) l last ≡ put at w l
put_filled l at w {last} {size} e f = let g : at + size - at ≡ length w = omega arith in rw (e, g, drop-drop)

-- THE PART THAT IS HANDED BACK
pub part_too_big : (n : ℕ) (l : List ℕ) → most_numbers ≤ n → part_of n l ≡ []
unfolding part_of
part_too_big n l h = rw (le-ltb _ _ h)

pub part_too_long : (n : ℕ) (l : List ℕ) → n < most_numbers → length l < length (written n) → part_of n l ≡ []
unfolding part_of
part_too_long n l h k = rw (lt-ltb _ _ h, lt-leb _ _ k)

module _ (n : ℕ) (l x : List ℕ) (small : n < most_numbers) (fits : length (written n) ≤ length l) (e : x ≡ onto (written n) l) where
  pub part_written : {size : ℕ} → size ≡ length (written n) → take size x ≡ part_of n l
  unfolding part_of
  part_written f = rw (f, e, lt-ltb _ _ small, le-leb _ _ fits) (take_at (written n) _ _ refl)

  pub part_size : {size : ℕ} → size ≡ length (written n) → size ≡ length (take size x)
  part_size f = rw (f, e) (ap length (sym (take_at (written n) _ _ refl)))

  pub part_long : length x ≡ length l
  part_long = let j : length (onto (written n) l) ≡ length (written n) + (length l - length (written n)) = simp (length-append, length-drop) in rw e (omega arith)

  -- where the room is as long as the number, the part is the room
  pub all_written : length x ≡ length (written n) → x ≡ written n
  all_written f = let g : length l ≤ length (written n) = omega (arith, part_long) in e ∙ rw (drop_of_length-le l g, append-nil)

  pub all_part : length x ≡ length (written n) → x ≡ part_of n l
  unfolding part_of
  all_part f = rw (lt-ltb _ _ small, le-leb _ _ fits) (all_written f)
