-- An answer of the code says neither more nor less than one of document 01 (`says_margin_answer`, `margin_answer_says`).
use mathlib.Core.Path.{◌≡◌, refl}
use Prim.Native.Nat.{ℕ}
use Rattle.net.specs.Net.{Net, every}
use Rattle.net.specs.Building.{margin_of}
use Rattle.net.specs.Building as B
use Rattle.net.specs.declared.Tree.{Tree}
use Rattle.margins.specs.Answers.{margin_answer_of, margin_says_of}
use Rattle.margins.specs.Answers.{MarginAnswer}
use Rattle.std.specs.Prelude.{Ok, Err}

-- WHAT AN ANSWER SAYS
pub says_margin_answer : (x : B.MarginAnswer) → margin_says_of (margin_answer_of x) ≡ x
says_margin_answer (B.MarginAnswer.margin z) = refl
says_margin_answer (B.MarginAnswer.refused r) = refl

pub margin_answer_says : (x : MarginAnswer) → margin_answer_of (margin_says_of x) ≡ x
margin_answer_says (Ok z) = refl
margin_answer_says (Err r) = refl

-- so what margin says is net's own answer
pub margin_says : (n : Net) (m k : ℕ) (t : Tree) (post : ℕ) {x : MarginAnswer} → x ≡ margin_answer_of (margin_of every n m k t post) → margin_says_of x ≡ margin_of every n m k t post
margin_says n m k t post e = rw e (says_margin_answer (margin_of every n m k t post))
