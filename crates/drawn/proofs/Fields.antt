-- What the fields of a bit pattern come to as a leg: the sign s, the exponent's field x and the digits t, below 2 ^ 52.
-- With a field that is not 0 the significand is 2 ^ 52 + t, and in sixteenths the length is (2 ^ 52 + t) * 2 ^ (x - 1071).
-- One law for each way through the code. Rests on `lib.Ieee`'s value of a pattern, on Zeros and on Measured. Assumes nothing.
use mathlib.Core.Path.{◌≡◌, refl, sym, ap, ◌∙◌, subst}
use mathlib.Core.Bool.{Bool, true, false, cond}
use Prim.Native.Nat.{ℕ, zero, suc, ◌+◌, ◌-◌, ◌*◌, ◌/◌, ◌%◌, ◌^◌, ◌≤◌, ◌<◌}
use native.Mathlib.Nat.{mul_comm, mul_assoc, mul_left_comm, mul-pos, mod-eq_of_lt, div-eq_of_lt, div-lt_iff_lt-mul, le-div_iff_mul-le, zero-lt-suc, lt_of_lt_of_le, le_trans, le_of_eq, mul-le-mul_left, mul-le-mul_right}
use native.Mathlib.Omega.{arith}
use lib.Dec.{eqb, lit≤}
use lib.Pow.{pow-add, pow_pos, pow_mono, shl_lt}
use lib.Count.{count_trailing_zeros}
use lib.Ieee.{nan, inf, binary64, odd, of_fields}
use lib.Ieee.Exact.{odd_sign}
use lib.Ieee.Nearest.{div_same}
use borrow.Author.Tests.{ne_eqb}
use Rattle.std.specs.Prelude.{Ok, Err}
use Rattle.drawn.specs.Drawn.{most, up_to, measured, the_leg_of, Leg}
use Rattle.drawn.proofs.Zeros.{zeros_div, zeros_odd, pow_multiple, pow_no_multiple}
use Rattle.drawn.proofs.Measured.{measured_below_zero, measured_zero, measured_too_long, measured_good, up_whole, up_more, up_ge, leg_value}

-- the fields stand for this leg
abbrev pub FieldsAre : Bool → ℕ → ℕ → Leg → Type 0
FieldsAre s x t l = the_leg_of (of_fields binary64 s x t) ≡ l

-- ---- the value, in units of 2 ^ -1074

odd_sixteenths : (s : Bool) (q x : ℕ) → the_leg_of (odd 53 s q x 1074) ≡ measured s (16 * (q * 2 ^ x)) (2 ^ 1074)
odd_sixteenths s q x = leg_value (odd 53 s q x 1074) s (q * 2 ^ x) (2 ^ 1074) (pow_pos 1074) (odd_sign 53 s q x 1074)

-- zero and the subnormals
fields_low : (s : Bool) (t : ℕ) → FieldsAre s 0 t (measured s (16 * (t * 2 ^ 0)) (2 ^ 1074))
unfolding of_fields
fields_low s t = odd_sixteenths s t 0

under_top : (x : ℕ) → suc x < 2047 → suc x ≡ 2047 → ⊥
under_top x h e = omega arith

-- the others that are finite
fields_mid : (s : Bool) (x t : ℕ) → suc x < 2047 → FieldsAre s (suc x) t (measured s (16 * ((2 ^ 52 + t) * 2 ^ x)) (2 ^ 1074))
unfolding of_fields
fields_mid s x t h =
    ap (λ (b : Bool). the_leg_of (cond b (cond (eqb t 0) (inf s) nan) (odd 53 s (2 ^ 52 + t) x 1074))) (ne_eqb (suc x) 2047 (under_top x h))
    ∙ odd_sixteenths s (2 ^ 52 + t) x

sixteen_pos : (q p : ℕ) → 0 < q → 0 < p → 0 < 16 * (q * p)
sixteen_pos q p h k = mul-pos (zero-lt-suc 15) (mul-pos h k)

pub lead_pos : (t : ℕ) → 0 < 2 ^ 52 + t
lead_pos t = omega arith

mid_pos : (x t : ℕ) → 0 < 16 * ((2 ^ 52 + t) * 2 ^ x)
mid_pos x t = sixteen_pos (2 ^ 52 + t) (2 ^ x) (lead_pos t) (pow_pos x)

low_pos : (t : ℕ) → 0 < 0 * 2 ^ 52 + t → 0 < 16 * (t * 2 ^ 0)
low_pos t p = sixteen_pos t 1 (omega arith) (zero-lt-suc 0)

-- q * 2 ^ x in sixteenths is q * 2 ^ (x + 4)
sixteenths : (q x : ℕ) → 16 * (q * 2 ^ x) ≡ q * 2 ^ (x + 4)
sixteenths q x = mul_left_comm 16 q (2 ^ x) ∙ ap (λ (y : ℕ). q * y) (mul_comm 16 (2 ^ x) ∙ sym (pow-add 2 x 4))

-- and with the zeros at q's end apart
zeros_apart : (q x : ℕ) → 16 * (q * 2 ^ x) ≡ q / 2 ^ count_trailing_zeros 64 q * 2 ^ (count_trailing_zeros 64 q + (x + 4))
zeros_apart q x =
    let z = count_trailing_zeros 64 q in
    sixteenths q x
    ∙ ap (λ (y : ℕ). y * 2 ^ (x + 4)) (sym (zeros_div 64 q))
    ∙ mul_assoc (q / 2 ^ z) (2 ^ z) (2 ^ (x + 4))
    ∙ ap (λ (y : ℕ). q / 2 ^ z * y) (sym (pow-add 2 z (x + 4)))

-- ---- 13, 14, 15

pub fields_not_finite : (s : Bool) (t : ℕ) → FieldsAre s 2047 t (Err 13)
unfolding of_fields the_leg_of
fields_not_finite s t = go (eqb t 0)
  where
    go : (b : Bool) → the_leg_of (cond b (inf s) nan) ≡ Err 13
    go true = refl
    go false = refl

pub fields_below_zero : (x t : ℕ) → x < 2047 → 0 < x * 2 ^ 52 + t → FieldsAre true x t (Err 14)
fields_below_zero zero t h p = fields_low true t ∙ measured_below_zero (16 * (t * 1)) (2 ^ 1074) (low_pos t p)
fields_below_zero (suc x) t h p = fields_mid true x t h ∙ measured_below_zero (16 * ((2 ^ 52 + t) * 2 ^ x)) (2 ^ 1074) (mid_pos x t)

both_zero : (x t : ℕ) → x * 2 ^ 52 + t ≡ 0 → (x ≡ 0) × (t ≡ 0)
both_zero x t e = omega arith

pub fields_zero : (s : Bool) (x t : ℕ) → x * 2 ^ 52 + t ≡ 0 → FieldsAre s x t (Err 15)
fields_zero s x t e = let z = both_zero x t e in rw (z.0, z.1) (fields_low s 0 ∙ measured_zero s (2 ^ 1074))

-- ---- below the field 1019 a length is below 1/16 mm, and is rounded up to that

under_one : (n d : ℕ) → 0 < n → n < d → measured false n d ≡ Ok 1
under_one n d N h =
    measured_good n d 1 N (up_more n d (subst (λ (y : ℕ). 0 < y) (sym (mod-eq_of_lt h)) N) ∙ ap (λ (y : ℕ). y + 1) (div-eq_of_lt h)) (lit≤ tt)

small_lt : (t : ℕ) → t < 2 ^ 52 → 16 * (t * 1) < 2 ^ 56
small_lt t h = omega arith

pub lead_lt : (t : ℕ) → t < 2 ^ 52 → 2 ^ 52 + t < 2 ^ 53
lead_lt t h = omega arith

pub fields_under_one : (x t : ℕ) → t < 2 ^ 52 → 0 < x * 2 ^ 52 + t → x < 1019 → FieldsAre false x t (Ok 1)
fields_under_one zero t b p l =
    fields_low false t
    ∙ under_one (16 * (t * 1)) (2 ^ 1074) (low_pos t p) (lt_of_lt_of_le (small_lt t b) (pow_mono {i = 56} {j = 1074} (lit≤ tt)))
fields_under_one (suc x) t b p l =
    let q = 2 ^ 52 + t in
    let small = lt_of_lt_of_le (shl_lt 53 (x + 4) (lead_lt t b)) (pow_mono {i = 53 + (x + 4)} {j = 1074} (omega arith)) in
    fields_mid false x t (omega arith)
    ∙ under_one (16 * (q * 2 ^ x)) (2 ^ 1074) (mid_pos x t) (subst (λ (y : ℕ). y < 2 ^ 1074) (sym (sixteenths q x)) small)

-- ---- 17: from the field 1039 on a length is 65,536 mm or more

no_low : 1039 ≤ 0 → ⊥
no_low h = omega arith

above : (x : ℕ) → 1039 ≤ suc x → 1042 ≤ x + 4
above x h = omega arith

lead_le : (t : ℕ) → 2 ^ 52 ≤ 2 ^ 52 + t
lead_le t = omega arith

pub fields_too_long : (x t : ℕ) → x < 2047 → 1039 ≤ x → FieldsAre false x t (Err 17)
fields_too_long zero t h l = absurd (no_low l)
fields_too_long (suc x) t h l =
    let q = 2 ^ 52 + t in
    let n = 16 * (q * 2 ^ x) in
    let same : 2 ^ 20 * 2 ^ 1074 ≡ 2 ^ 52 * 2 ^ 1042 = refl in
    let big : 2 ^ 20 * 2 ^ 1074 ≤ n =
    subst (λ (y : ℕ). 2 ^ 20 * 2 ^ 1074 ≤ y) (sym (sixteenths q x))
    (le_trans (le_of_eq same) (le_trans (mul-le-mul_left (2 ^ 52) (pow_mono (above x l))) (mul-le-mul_right (2 ^ (x + 4)) (lead_le t)))) in
    fields_mid false x t h
    ∙ measured_too_long n (2 ^ 1074) (mid_pos x t) (le_trans ((le-div_iff_mul-le (pow_pos 1074)).1 big) (up_ge n (2 ^ 1074)))

-- ---- between them the significand, shifted to the right by 1071 less the field, counts the whole sixteenths

lead_under : (t : ℕ) → t < 2 ^ 52 → 2 ^ 52 + t < 2 ^ 20 * 2 ^ 33
lead_under t h = omega arith

wide : (x : ℕ) → x < 1039 → 33 ≤ 1071 - x
wide x h = omega arith

below_most : (k : ℕ) → k < 2 ^ 20 → k ≤ most
below_most k h = omega arith

-- the significand, shifted so
abbrev pub shifted : ℕ → ℕ → ℕ
shifted x t = (2 ^ 52 + t) / 2 ^ (1071 - x)

pub shifted_most : (x t : ℕ) → t < 2 ^ 52 → x < 1039 → shifted x t ≤ most
shifted_most x t b l =
    below_most (shifted x t)
    ((div-lt_iff_lt-mul (pow_pos (1071 - x))).1 (lt_of_lt_of_le (lead_under t b) (mul-le-mul_left (2 ^ 20) (pow_mono (wide x l)))))

split_exponent : (x : ℕ) → suc x < 1039 → 1074 ≡ 1071 - suc x + (x + 4)
split_exponent x h = omega arith

quotient : (q x : ℕ) → suc x < 1039 → 16 * (q * 2 ^ x) / 2 ^ 1074 ≡ q / 2 ^ (1071 - suc x)
quotient q x l =
    let i = 1071 - suc x in
    let j = x + 4 in
    ap (λ (y : ℕ). y / 2 ^ 1074) (sixteenths q x)
    ∙ ap (λ (y : ℕ). q * 2 ^ j / 2 ^ y) (split_exponent x l)
    ∙ div_same (q * 2 ^ j) (2 ^ (i + j)) q (2 ^ i) (pow_pos (i + j)) (pow_pos i)
    (mul_assoc q (2 ^ j) (2 ^ i) ∙ ap (λ (y : ℕ). q * y) (mul_comm (2 ^ j) (2 ^ i) ∙ sym (pow-add 2 i j)))

zero_field : 1019 ≤ 0 → ⊥
zero_field h = omega arith

-- ---- that is the answer where, by the field and the zeros, the shift drops nothing

long : (x z : ℕ) → 1071 ≤ suc x + z → 1074 ≤ z + (x + 4)
long x z h = omega arith

pub fields_whole : (x t : ℕ) → t < 2 ^ 52 → 1019 ≤ x → x < 1039 → 1071 ≤ x + count_trailing_zeros 64 (2 ^ 52 + t) → FieldsAre false x t (Ok (shifted x t))
fields_whole zero t b g l k = absurd (zero_field g)
fields_whole (suc x) t b g l k =
    let q = 2 ^ 52 + t in
    let z = count_trailing_zeros 64 q in
    let n = 16 * (q * 2 ^ x) in
    let r : n % 2 ^ 1074 ≡ 0 = ap (λ (y : ℕ). y % 2 ^ 1074) (zeros_apart q x) ∙ pow_multiple (q / 2 ^ z) (z + (x + 4)) 1074 (long x z k) in
    fields_mid false x t (omega arith)
    ∙ measured_good n (2 ^ 1074) (shifted (suc x) t) (mid_pos x t) (up_whole n (2 ^ 1074) r ∙ quotient q x l) (shifted_most (suc x) t b l)

-- ---- where it drops something, one is added, and 17 is asked of the sum

short : (x z : ℕ) → suc x + z < 1071 → z + (x + 4) < 1074
short x z h = omega arith

sixty_four : (t : ℕ) → t < 2 ^ 52 → 2 ^ 52 + t < 2 ^ 64
sixty_four t h = omega arith

fields_up : (x t : ℕ) → t < 2 ^ 52 → suc x < 1039 → suc x + count_trailing_zeros 64 (2 ^ 52 + t) < 1071
    → up_to (16 * ((2 ^ 52 + t) * 2 ^ x)) (2 ^ 1074) ≡ shifted (suc x) t + 1
fields_up x t b l k =
    let q = 2 ^ 52 + t in
    let z = count_trailing_zeros 64 q in
    let n = 16 * (q * 2 ^ x) in
    let odd-rest = pow_no_multiple (q / 2 ^ z) (z + (x + 4)) 1074 (zeros_odd 64 q (lead_pos t) (sixty_four t b)) (short x z k) in
    up_more n (2 ^ 1074) (subst (λ (y : ℕ). 0 < y % 2 ^ 1074) (sym (zeros_apart q x)) odd-rest) ∙ ap (λ (y : ℕ). y + 1) (quotient q x l)

past : (y : ℕ) → most ≤ y → most < y + 1
past y h = omega arith

pub fields_past : (x t : ℕ) → t < 2 ^ 52 → 1019 ≤ x → x < 1039 → x + count_trailing_zeros 64 (2 ^ 52 + t) < 1071 → most ≤ shifted x t → FieldsAre false x t (Err 17)
fields_past zero t b g l k m = absurd (zero_field g)
fields_past (suc x) t b g l k m =
    fields_mid false x t (omega arith)
    ∙ measured_too_long (16 * ((2 ^ 52 + t) * 2 ^ x)) (2 ^ 1074) (mid_pos x t)
    (subst (λ (y : ℕ). most < y) (sym (fields_up x t b l k)) (past (shifted (suc x) t) m))

room : (y : ℕ) → y < most → y + 1 ≤ most
room y h = omega arith

pub fields_more : (x t : ℕ) → t < 2 ^ 52 → 1019 ≤ x → x < 1039 → x + count_trailing_zeros 64 (2 ^ 52 + t) < 1071 → shifted x t < most
    → FieldsAre false x t (Ok (shifted x t + 1))
fields_more zero t b g l k m = absurd (zero_field g)
fields_more (suc x) t b g l k m =
    fields_mid false x t (omega arith)
    ∙ measured_good (16 * ((2 ^ 52 + t) * 2 ^ x)) (2 ^ 1074) (shifted (suc x) t + 1) (mid_pos x t) (fields_up x t b l k) (room (shifted (suc x) t) m)
