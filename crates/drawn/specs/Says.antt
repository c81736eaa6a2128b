-- What an answer says in document 01's terms, for each case of the code's answers.
-- Definitions only. The rules and the promises speak through it, and not of the code's types.
use Rattle.std.specs.Prelude.{ℕ, Ok, Err}
use Rattle.drawn.specs.Drawn.{Leg, Answer}

-- a length in sixteenths, or a refusal's number and place
pub data Says : Type 0 where
  sixteenths : ℕ → Says
  refused : ℕ → ℕ → Says

-- each case of `Answer`
abbrev pub says_of : Answer → Says
says_of (Ok k) = sixteenths k
says_of (Err r) = refused r.number r.place

-- each case of `Leg`, for a leg whose place is p: 0, and for the second leg 1
abbrev pub leg_says : ℕ → Leg → Says
leg_says p (Ok k) = sixteenths k
leg_says p (Err n) = refused n p
