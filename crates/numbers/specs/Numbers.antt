-- A number in the record: "written in groups of seven bits, lowest group first; 128 is added to every byte but the
-- last", and how one is read. Relies on net's refusals; `Putting`, `Answers` and `Rules` stand on it, and so do the
-- definitions of the crates `writing` and `reading`.
use Rattle.std.specs.Prelude.{ℕ, zero, suc, ◌+◌, ◌*◌, ◌-◌, ◌/◌, ◌%◌, ◌<◌, ◌&&◌, cond, List, [], ◌∷◌, eqb, ltb, leb, length, get_or}
use Rattle.net.specs.Refusals.{refusal}
use Rattle.net.specs.declared.Refusal.{Refusal}

-- every entry of a list is a byte
abbrev pub Bytes : List ℕ → Type 0
Bytes l = (i : ℕ) → get_or l i 0 < 256

-- four groups of seven bits: the numbers below 2^28, which a record can hold
abbrev pub most_numbers : ℕ
most_numbers = 268435456

-- a number in at most k + 1 groups
unfoldable pub groups : ℕ → ℕ → List ℕ
groups zero n = n ∷ []
groups (suc k) n = cond (ltb n 128) (n ∷ []) ((128 + n % 128) ∷ groups k (n / 128))

-- "There are one to four groups": the bytes of a number below 2^28
unfoldable pub written : ℕ → List ℕ
written n = groups 3 n

-- what is read at an offset: a value and the offset after it, or a refusal
pub data Got (X : Type 0) : Type 0 where
  got : X → ℕ → Got X
  refused : Refusal → Got X

module _ (bytes : List ℕ) where
  -- a number that begins at `start`: at most k groups more, of which the next stands at `at`, behind groups that make
  -- up `low`; `unit` is what 1 counts for in that group
  unfoldable pub groups_at : ℕ → ℕ → ℕ → ℕ → ℕ → Got ℕ
  groups_at start zero unit low at = refused (refusal 11 start)
  groups_at start (suc k) unit low at =
      cond (leb (length bytes) at) (refused (refusal 10 start))
      (cond (leb 128 (get_or bytes at 0)) (groups_at start k (128 * unit) (low + unit * (get_or bytes at 0 - 128)) (at + 1))
      (cond (eqb (get_or bytes at 0) 0 && ltb start at) (refused (refusal 11 start))
      (got (low + unit * get_or bytes at 0) (at + 1))))

  -- the number at an offset, or 10 or 11 with that offset as place
  unfoldable pub number : ℕ → Got ℕ
  number at = groups_at at 4 1 0 at
