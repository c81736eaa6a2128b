-- The eight ways through the code of `leg_of_bits`, each as a law about the float whose bit pattern is b, in the code's own masks and
-- shift. Rests on Fields. Assumes nothing.
use mathlib.Core.Path.{◌≡◌, refl, sym, ap, ◌∙◌, subst}
use mathlib.Core.Bool.{Bool, true, false}
use Prim.Native.Nat.{ℕ, ◌+◌, ◌-◌, ◌*◌, ◌/◌, ◌%◌, ◌^◌, ◌≤◌, ◌<◌}
use native.Mathlib.Nat.{div-add-mod'}
use native.Mathlib.Omega.{arith}
use lib.Dec.{leb}
use lib.Pow.{mod-mod-pow}
use lib.Bits.{bit_and, and_mask, mask_lt}
use lib.Count.{count_trailing_zeros}
use lib.Ieee.{binary64, of_fields, of_bits}
use borrow.Author.Tests.{le-leb, lt-leb}
use Rattle.std.specs.Prelude.{Ok, Err}
use Rattle.drawn.specs.Drawn.{most, the_leg_of, Leg}
use Rattle.drawn.proofs.Zeros.{zeros_lt}
use Rattle.drawn.proofs.Fields.{lead_pos, lead_lt, fields_not_finite, fields_below_zero, fields_zero, fields_too_long, fields_under_one, fields_whole, fields_past, fields_more, shifted_most}

-- the pattern without its sign, its exponent's field, its digits, the significand and the zeros at its end
abbrev pub size_of : ℕ → ℕ
size_of b = bit_and b (2 ^ 63 - 1)

abbrev pub field_of : ℕ → ℕ
field_of b = size_of b / 2 ^ 52

abbrev pub digits_of : ℕ → ℕ
digits_of b = bit_and b (2 ^ 52 - 1)

abbrev pub significand_of : ℕ → ℕ
significand_of b = 2 ^ 52 + digits_of b

abbrev pub zeros_of : ℕ → ℕ
zeros_of b = count_trailing_zeros 64 (significand_of b)

-- what is left of the significand when it is shifted to count sixteenths
abbrev pub whole_of : ℕ → ℕ
whole_of b = significand_of b / 2 ^ (1071 - field_of b)

-- the pattern b stands for the leg l
abbrev pub BitsAre : ℕ → Leg → Type 0
BitsAre b l = the_leg_of (of_bits binary64 b) ≡ l

-- ---- the masks

bits_fields : (s : Bool) (b : ℕ) → leb (2 ^ 63) b ≡ s → of_bits binary64 b ≡ of_fields binary64 s (field_of b) (digits_of b)
unfolding of_bits
bits_fields s b e =
    ap (λ (y : Bool). of_fields binary64 y (b % 2 ^ 63 / 2 ^ 52) (b % 2 ^ 52)) e
    ∙ ap (λ (y : ℕ). of_fields binary64 s (y / 2 ^ 52) (b % 2 ^ 52)) (sym (and_mask b 63))
    ∙ ap (λ (y : ℕ). of_fields binary64 s (field_of b) y) (sym (and_mask b 52))

pub digits_lt : (b : ℕ) → digits_of b < 2 ^ 52
digits_lt b = mask_lt b 52

field_of_size : (n : ℕ) → n < 2 ^ 63 → n / 2 ^ 52 < 2048
field_of_size n h = omega arith

pub field_lt : (b : ℕ) → field_of b < 2048
field_lt b = field_of_size (size_of b) (mask_lt b 63)

pub zeros_few : (b : ℕ) → zeros_of b < 53
zeros_few b = zeros_lt 64 (significand_of b) 53 (lead_pos (digits_of b)) (lead_lt (digits_of b) (digits_lt b))

-- the two fields make the pattern without its sign
two_fields : (b : ℕ) → field_of b * 2 ^ 52 + digits_of b ≡ size_of b
two_fields b =
    ap (λ (y : ℕ). field_of b * 2 ^ 52 + y) (and_mask b 52 ∙ sym (mod-mod-pow b 11 52) ∙ ap (λ (y : ℕ). y % 2 ^ 52) (sym (and_mask b 63)))
    ∙ div-add-mod' (size_of b) (2 ^ 52)

fields_pos : (b : ℕ) → 0 < size_of b → 0 < field_of b * 2 ^ 52 + digits_of b
fields_pos b h = subst (λ (y : ℕ). 0 < y) (sym (two_fields b)) h

not_top : (x : ℕ) → x < 2048 → (x ≡ 2047 → ⊥) → x < 2047
not_top x h n = omega arith

size_pos : (b n : ℕ) → n ≡ b % 2 ^ 63 → b < 2 ^ 64 → 2 ^ 63 < b → 0 < n
size_pos b n e h k = omega arith

under_sign : (b n : ℕ) → n ≡ b % 2 ^ 63 → b ≤ 2 ^ 63 → (n ≡ 0 → ⊥) → b < 2 ^ 63
under_sign b n e h k = omega arith

ne_pos : (n : ℕ) → (n ≡ 0 → ⊥) → 0 < n
ne_pos n f = omega arith

-- ---- the eight ways

pub bits_not_finite : (b : ℕ) → field_of b ≡ 2047 → BitsAre b (Err 13)
bits_not_finite b e =
    let s = leb (2 ^ 63) b in
    ap the_leg_of (bits_fields s b refl) ∙ ap (λ (y : ℕ). the_leg_of (of_fields binary64 s y (digits_of b))) e ∙ fields_not_finite s (digits_of b)

pub bits_below_zero : (b : ℕ) → b < 2 ^ 64 → (field_of b ≡ 2047 → ⊥) → 2 ^ 63 < b → BitsAre b (Err 14)
bits_below_zero b h n k =
    ap the_leg_of (bits_fields true b (le-leb (2 ^ 63) b (omega arith)))
    ∙ fields_below_zero (field_of b) (digits_of b) (not_top (field_of b) (field_lt b) n) (fields_pos b (size_pos b (size_of b) (and_mask b 63) h k))

pub bits_zero : (b : ℕ) → size_of b ≡ 0 → BitsAre b (Err 15)
bits_zero b e = let s = leb (2 ^ 63) b in ap the_leg_of (bits_fields s b refl) ∙ fields_zero s (field_of b) (digits_of b) (two_fields b ∙ e)

-- a finite length above zero
module _ (b : ℕ) (n : field_of b ≡ 2047 → ⊥) (h : b ≤ 2 ^ 63) (z : size_of b ≡ 0 → ⊥) where
  plain : the_leg_of (of_bits binary64 b) ≡ the_leg_of (of_fields binary64 false (field_of b) (digits_of b))
  plain = ap the_leg_of (bits_fields false b (lt-leb (2 ^ 63) b (under_sign b (size_of b) (and_mask b 63) h z)))

  pub bits_too_long : 1039 ≤ field_of b → BitsAre b (Err 17)
  bits_too_long l = plain ∙ fields_too_long (field_of b) (digits_of b) (not_top (field_of b) (field_lt b) n) l

  pub bits_under_one : field_of b < 1019 → BitsAre b (Ok 1)
  bits_under_one l = plain ∙ fields_under_one (field_of b) (digits_of b) (digits_lt b) (fields_pos b (ne_pos (size_of b) z)) l

  -- from 1/16 mm to less than 65,536 mm
  module _ (g : 1019 ≤ field_of b) (l : field_of b < 1039) where
    pub bits_whole : 1071 ≤ field_of b + zeros_of b → BitsAre b (Ok (whole_of b))
    bits_whole k = plain ∙ fields_whole (field_of b) (digits_of b) (digits_lt b) g l k

    pub bits_past : field_of b + zeros_of b < 1071 → most ≤ whole_of b → BitsAre b (Err 17)
    bits_past k m = plain ∙ fields_past (field_of b) (digits_of b) (digits_lt b) g l k m

    pub bits_more : field_of b + zeros_of b < 1071 → whole_of b < most → BitsAre b (Ok (whole_of b + 1))
    bits_more k m = plain ∙ fields_more (field_of b) (digits_of b) (digits_lt b) g l k m

-- what the shift leaves is at most 65,535.9375 mm in sixteenths, and so fits a u32
pub whole_most : (b : ℕ) → field_of b < 1039 → whole_of b ≤ most
whole_most b l = shifted_most (field_of b) (digits_of b) (digits_lt b) l
