-- What an answer says in document 01's words.
use Prim.Native.Nat.{ℕ}
use mathlib.Core.Path.{◌≡◌, refl}
use Rattle.numbers.specs.Numbers.{Got, got, refused}
use Rattle.numbers.specs.Answers.{numbered_of, says_numbered}

-- the definitions' number or refusal
pub says_numbered_law : (g : Got ℕ) → says_numbered (numbered_of g) ≡ g
says_numbered_law (got n next) = refl
says_numbered_law (refused r) = refl
