-- What an answer of margin says in document 01's terms, for each case of the code's answer; and the tree that is named.
use Rattle.std.specs.Prelude.{List, ℕ, ℤ, Result, Ok, Err}
use Rattle.net.specs.declared.Refusal.{Refusal}
use Rattle.net.specs.declared.Tree.{Tree}
use Rattle.net.specs.declared.Tree.TheVariants.{Lightest, Shortest, Between}
use Rattle.net.specs.Building as B

-- what the code answers
abbrev pub MarginAnswer : Type 0
MarginAnswer = Result ℤ Refusal

-- what margin answers as the code does
abbrev pub margin_answer_of : B.MarginAnswer → MarginAnswer
margin_answer_of (B.MarginAnswer.margin z) = Ok z
margin_answer_of (B.MarginAnswer.refused r) = Err r

-- and what an answer of margin says in document 01's terms
abbrev pub margin_says_of : MarginAnswer → B.MarginAnswer
margin_says_of (Ok z) = B.MarginAnswer.margin z
margin_says_of (Err r) = B.MarginAnswer.refused r

-- the one of three trees that is named
unfoldable pub named : Tree → (light short third : List ℕ) → List ℕ
named Lightest light short third = light
named Shortest light short third = short
named Between light short third = third
