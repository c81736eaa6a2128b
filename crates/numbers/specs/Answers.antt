-- What the answers of the code say in document 01's words: a number and the offset after it, or 10 or 11 with its
-- place. Relies on `Numbers`; the contracts of the code are equations with these.
use Rattle.std.specs.Prelude.{ℕ, Result, Ok, Err}
use Rattle.net.specs.Refusals.{refusal}
use Rattle.numbers.specs.Numbers.{Got, got, refused}
use Rattle.numbers.specs.declared.Number.{Number}
use Rattle.numbers.specs.declared.Misread.{Misread}

-- the number and the offset after it, or 10 or 11
abbrev pub numbered_of : Got ℕ → Result Number Misread
numbered_of (got n next) = Ok (record { value = n; next = next })
numbered_of (refused r) = Err (record { number = r.number; place = r.place })

-- the same the other way
abbrev pub says_numbered : Result Number Misread → Got ℕ
says_numbered (Ok n) = got n.value n.next
says_numbered (Err m) = refused (refusal m.number m.place)

-- the offset after a number; of a refusal, the offset where the number begins
abbrev pub behind_of : Result Number Misread → ℕ
behind_of (Ok n) = n.next
behind_of (Err m) = m.place
