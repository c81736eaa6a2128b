-- A number as rules, one constructor for each refusal with its place, without tests and without an order of work: each
-- says that nothing before it holds. proofs/RuledNumbers proves that every place of a record has an answer by these
-- rules, that it has no other, and that `number` computes it.
use Rattle.std.specs.Prelude.{ℕ, ◌+◌, ◌<◌, ◌≤◌, ◌≡◌, List, ◌++◌, length, get_or, drop}
use Rattle.net.specs.Refusals.{refusal}
use Rattle.numbers.specs.Numbers.{most_numbers, written, Got, got, refused}

-- the bytes w stand from one offset to another
pub record Stand (bytes : List ℕ) (at : ℕ) (w : List ℕ) (next : ℕ) : Type 0 where
  pub stand : drop at bytes ≡ w ++ drop next bytes
  pub size : next ≡ at + length w

module _ (bytes : List ℕ) where
  -- k bytes are there from `at` on, and each says that more follow
  abbrev pub MoreFollow : ℕ → ℕ → Type 0
  MoreFollow at k = (j : ℕ) → j < k → (at + j < length bytes) × (128 ≤ get_or bytes (at + j) 0)

  -- A NUMBER: 10 "record ends before a number, or inside one after at most three of its bytes";
  -- 11 "number not in its shortest form, or a fourth group that says more follow"
  pub data NumberRule (at : ℕ) : Got ℕ → Type 0 where
    stands : {n next : ℕ} → n < most_numbers → Stand bytes at (written n) next → NumberRule at (got n next)
    ten : {k : ℕ} → k < 4 → MoreFollow at k → length bytes ≤ at + k → NumberRule at (refused (refusal 10 at))
    eleven_zero : {k : ℕ} → 1 ≤ k → k < 4 → MoreFollow at k → at + k < length bytes → get_or bytes (at + k) 0 ≡ 0
        → NumberRule at (refused (refusal 11 at))
    eleven_more : MoreFollow at 4 → NumberRule at (refused (refusal 11 at))
