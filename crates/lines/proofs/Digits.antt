-- A number as text: its last digit and what stands before it; its bytes are digits with no zero in front, and read back as the number.
use mathlib.Core.Path.{◌≡◌, refl, sym, ap, ◌∙◌}
use mathlib.Core.Bool.{Bool, true, false, ◌&&◌}
use mathlib.Core.List.{List, [], ◌∷◌, ◌++◌}
use Prim.Native.Nat.{ℕ, zero, suc, ◌+◌, ◌-◌, ◌*◌, ◌/◌, ◌%◌, ◌^◌, ◌<◌, ◌≤◌}
use native.Mathlib.Nat.{pow-suc}
use native.Mathlib.Omega.{arith}
use lib.Dec.{ltb, leb}
use lib.ListN.{length, length-append, get_or, get_or-append}
use borrow.Author.Tests.{lt-leb, le-leb, ltb-true, ltb-false}
use Rattle.lines.specs.Text.{spelled, decimal}
use Rattle.lines.specs.Reading.{all_digits, value_from, value}
use Rattle.lines.specs.Putting.{Wrote}
use Rattle.lines.specs.declared.Text.{Text}
use Rattle.lines.proofs.Placing.{wrote_then}

-- THE LAST DIGIT and what stands before it
spelled_low : (k n : ℕ) → n < 10 → spelled (suc k) n ≡ (48 + n) ∷ []
unfolding spelled
spelled_low k n h = let e : n % 10 ≡ n = omega arith in rw (lt-leb 10 n h, e)

spelled_high : (k n : ℕ) → 10 ≤ n → spelled (suc k) n ≡ spelled k (n / 10) ++ ((48 + n % 10) ∷ [])
unfolding spelled
spelled_high k n h = rw (le-leb 10 n h)

-- n is below 10, or not
by_ten : {P : Type 0} (n : ℕ) → (n < 10 → P) → (10 ≤ n → P) → P
by_ten {P} n low high = go (ltb n 10) refl
  where
    go : (b : Bool) → ltb n 10 ≡ b → P
    go true e = low (ltb-true n 10 e)
    go false e = high (ltb-false n 10 e)

-- more room for digits than n + 1 gives no more of them
spelled_enough : (k m n : ℕ) → n < k → n < m → spelled k n ≡ spelled m n
spelled_enough zero m n h g = absurd (omega arith)
spelled_enough (suc k) zero n h g = absurd (omega arith)
spelled_enough (suc k) (suc m) n h g =
    by_ten n (λ low. spelled_low k n low ∙ sym (spelled_low m n low))
    (λ high. spelled_high k n high ∙ ap (λ l. l ++ ((48 + n % 10) ∷ [])) (spelled_enough k m (n / 10) (omega arith) (omega arith)) ∙ sym (spelled_high m n high))

pub decimal_low : (n : ℕ) → n < 10 → decimal n ≡ (48 + n) ∷ []
unfolding decimal
decimal_low n h = spelled_low n n h

pub decimal_high : (n : ℕ) → 10 ≤ n → decimal n ≡ decimal (n / 10) ++ ((48 + n % 10) ∷ [])
unfolding decimal
decimal_high n h = spelled_high n n h ∙ ap (λ l. l ++ ((48 + n % 10) ∷ [])) (spelled_enough n (suc (n / 10)) (n / 10) (omega arith) (omega arith))

-- a fact of all numbers, by their last digit: of those below 10, and of n where it is of n / 10
spelling : (P : ℕ → Type 0) → ((n : ℕ) → n < 10 → P n) → ((n : ℕ) → 10 ≤ n → P (n / 10) → P n) → (k n : ℕ) → n < k → P n
spelling P low high zero n h = absurd (omega arith)
spelling P low high (suc k) n h = by_ten n (low n) (λ g. high n g (spelling P low high k (n / 10) (omega arith)))

by_digits : (P : ℕ → Type 0) → ((n : ℕ) → n < 10 → P n) → ((n : ℕ) → 10 ≤ n → P (n / 10) → P n) → (n : ℕ) → P n
by_digits P low high n = spelling P low high (suc n) n (omega arith)

-- THE BYTES ARE DIGITS
digits_append : (l m : List ℕ) → all_digits l ≡ true → all_digits m ≡ true → all_digits (l ++ m) ≡ true
unfolding all_digits
digits_append [] m e f = f
digits_append (b ∷ l) m e f = go (leb 48 b && leb b 57) (λ g. digits_append l m g f) e
  where
    go : (t : Bool) → (all_digits l ≡ true → all_digits (l ++ m) ≡ true) → t && all_digits l ≡ true → t && all_digits (l ++ m) ≡ true
    go true more e = more e
    go false more e = e

digit_byte : (d : ℕ) → d < 10 → all_digits ((48 + d) ∷ []) ≡ true
unfolding all_digits
digit_byte d h = rw (le-leb 48 (48 + d) (omega arith), le-leb (48 + d) 57 (omega arith))

pub decimal_digits : (n : ℕ) → all_digits (decimal n) ≡ true
decimal_digits =
    by_digits (λ n. all_digits (decimal n) ≡ true) (λ n h. rw (decimal_low n h) (digit_byte n h))
    (λ n h e. rw (decimal_high n h) (digits_append (decimal (n / 10)) ((48 + n % 10) ∷ []) e (digit_byte (n % 10) (omega arith))))

-- THEY READ BACK AS THE NUMBER
value_append : (a d : ℕ) (l : List ℕ) → value_from a (l ++ ((48 + d) ∷ [])) ≡ value_from a l * 10 + d
unfolding value_from
value_append a d [] = omega arith
value_append a d (b ∷ l) = value_append (a * 10 + (b - 48)) d l

value_one : (d : ℕ) → value ((48 + d) ∷ []) ≡ d
unfolding value_from
value_one d = omega arith

pub decimal_value : (n : ℕ) → value (decimal n) ≡ n
decimal_value =
    by_digits (λ n. value (decimal n) ≡ n) (λ n h. rw (decimal_low n h) (value_one n))
    (λ n h e. rw (decimal_high n h) (value_append 0 (n % 10) (decimal (n / 10)) ∙ rw e (omega arith)))

-- so two numbers with the same text are equal
pub decimal_unique : (n m : ℕ) → decimal n ≡ decimal m → n ≡ m
decimal_unique n m e = sym (decimal_value n) ∙ ap value e ∙ decimal_value m

-- HOW MANY: at least one, and at most k for a number below 10 ^ k
pub decimal_some : (n : ℕ) → 1 ≤ length (decimal n)
decimal_some =
    by_digits (λ n. 1 ≤ length (decimal n)) (λ n h. rw (decimal_low n h) (omega arith)) (λ n h e. rw (decimal_high n h) (simp length-append (omega arith)))

pub decimal_short : (k n : ℕ) → n < 10 ^ suc k → length (decimal n) ≤ suc k
decimal_short zero n h = rw (decimal_low n h) (omega arith)
decimal_short (suc k) n h =
    by_ten n (λ low. rw (decimal_low n low) (omega arith))
    (λ high. let e = pow-suc 10 (suc k) in rw (decimal_high n high) (simp length-append (omega (arith, decimal_short k (n / 10) (omega arith)))))

-- no zero stands in front but that of the number 0
pub decimal_front : (n : ℕ) → 0 < n → 48 < get_or (decimal n) 0 0
decimal_front =
    by_digits (λ n. 0 < n → 48 < get_or (decimal n) 0 0) (λ n h pos. rw (decimal_low n h) (omega arith))
    (λ n h e pos. rw (decimal_high n h, get_or-append (decimal (n / 10)) ((48 + n % 10) ∷ []) 0 0 (decimal_some (n / 10))) (e (omega arith)))

-- NUMBERS PUT: one digit, or what stands before the last digit and that digit
pub put_low : {a b : Text} {n d : ℕ} → n < 10 → d ≡ 48 + n → Wrote (d ∷ []) a b → Wrote (decimal n) a b
put_low {n = n} h e p = rw (decimal_low n h, ← e) p

pub put_high : {a b c : Text} {n d : ℕ} → 10 ≤ n → Wrote (decimal (n / 10)) a b → d ≡ 48 + n % 10 → Wrote (d ∷ []) b c → Wrote (decimal n) a c
put_high {n = n} h p e q = rw (decimal_high n h, ← e) (wrote_then p q)

pub high_length : (n : ℕ) → 10 ≤ n → length (decimal n) ≡ length (decimal (n / 10)) + 1
high_length n h = rw (decimal_high n h) (simp length-append (omega arith))
