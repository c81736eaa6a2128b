-- How an answer stands in one number of 64 bits. There are two kinds of numbers, for each case of an answer: one for an
-- answer that isn't a number, and one for a length. Relies on c_numbers' `Named` for a refusal in one number.
use Rattle.std.specs.Prelude.{ℕ, ℤ, ◌≤◌, Result, Ok, Err}
use Rattle.net.specs.Refusals.{Checked}
use Rattle.net.specs.declared.Plan.{Plan}
use Rattle.net.specs.declared.Refusal.{Refusal}
use Rattle.c_numbers.specs.Named.{most_number, packed, marked}

-- 0, or the refusal
abbrev pub zero_or_packed : {A : Type 0} → Result A Refusal → ℕ
zero_or_packed (Ok x) = 0
zero_or_packed (Err r) = packed r

-- the length, or the refusal, marked
abbrev pub length_or_marked : Result ℕ Refusal → ℕ
length_or_marked (Ok size) = size
length_or_marked (Err r) = marked r

-- a refusal has a number that documents 01 and 02 give, so that it has 64 bits when it is marked
abbrev pub Markable : Result ℕ Refusal → Type 0
Markable (Ok size) = Unit {0}
Markable (Err r) = r.number ≤ most_number

-- of a check, a plan and a margin
abbrev pub check_number : Checked → ℕ
check_number = zero_or_packed

abbrev pub plan_number : Result Plan Refusal → ℕ
plan_number = zero_or_packed

abbrev pub margin_number : Result ℤ Refusal → ℕ
margin_number = zero_or_packed

-- of a record that was written, and of a drawn run, in sixteenths
abbrev pub the_write_number : Result ℕ Refusal → ℕ
the_write_number = length_or_marked

abbrev pub drawn_number : Result ℕ Refusal → ℕ
drawn_number = length_or_marked
