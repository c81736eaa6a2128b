-- The f64 of a pattern of bits: under the sign a not-a-number's are above an infinity's, and all of them stand for one not-a-number. Rests on the library's floats.
use mathlib.Core.Path.{◌≡◌, refl, sym, ap, ◌∙◌, subst}
use mathlib.Core.Bool.{Bool, true, not}
use Prim.Native.Nat.{ℕ, ◌-◌, ◌^◌, ◌≤◌, ◌<◌}
use native.Mathlib.Omega.{arith}
use lib.Dec.{T, ltb}
use lib.Bits.{bit_and, and_mask}
use lib.Ieee.{Float, nan, inf, fin, binary64, is_nan, nan_bits, of_bits}
use lib.Ieee.Bits.{nan_bits_is, nan_bits_above}
use borrow.Author.Tests.{le-ltb, lt-ltb}

-- the pattern without its sign
abbrev size_of : ℕ → ℕ
size_of b = bit_and b (2 ^ 63 - 1)

above_infinity : (b : ℕ) → nan_bits binary64 b ≡ ltb 0x7ff0_0000_0000_0000 (size_of b)
above_infinity b = nan_bits_above binary64 b ∙ ap (λ (y : ℕ). ltb 0x7ff0_0000_0000_0000 y) (sym (and_mask b 63))

pub no_nan : (b : ℕ) → size_of b ≤ 0x7ff0_0000_0000_0000 → T (not (nan_bits binary64 b))
no_nan b h = subst (λ (t : Bool). T (not t)) (sym (above_infinity b ∙ le-ltb 0x7ff0_0000_0000_0000 (size_of b) h)) tt

is_nan_law : (x : Float) → is_nan x ≡ true → nan ≡ x
unfolding is_nan
is_nan_law nan e = refl
is_nan_law (inf s) e = let z : ◌≡◌ {A = ℕ} 0 1 = cc in absurd (omega arith)
is_nan_law (fin s m k) e = let z : ◌≡◌ {A = ℕ} 0 1 = cc in absurd (omega arith)

pub nan_of : (b : ℕ) → 0x7ff0_0000_0000_0000 < size_of b → nan ≡ of_bits binary64 b
nan_of b h = is_nan_law (of_bits binary64 b) (sym (nan_bits_is binary64 b) ∙ above_infinity b ∙ lt-ltb 0x7ff0_0000_0000_0000 (size_of b) h)

-- the bits of `f64::NAN` are the not-a-number's
pub nan_bits_nan : of_bits binary64 0x7ff8_0000_0000_0000 ≡ nan
unfolding of_bits
nan_bits_nan = refl
