-- TWO OUTCOMES that the contract of building allows are equal (`build_one`); and an answer of the code says neither more nor less than one of document 01
-- (`says_answer`, `answer_says`).
use mathlib.Core.Path.{◌≡◌, refl, sym, ◌∙◌}
use mathlib.Core.List.{List}
use Prim.Native.Nat.{ℕ}
use Rattle.net.specs.Net.{Net, every}
use Rattle.net.specs.Building.{BuildAnswer, build_of}
use Rattle.net.specs.Building as B
use Rattle.building.specs.Answers.{answer_of, says_of, Leaves, lent_of}
use Rattle.std.specs.Prelude.{Ok, Err}
use Rattle.building.specs.Answers.{Answer}

-- the answer and the three lists
pub record SameOutcome (r r₂ : Answer) (l l₂ s s₂ w w₂ : List ℕ) : Type 0 where
  pub answers : r ≡ r₂
  pub lightest : l ≡ l₂
  pub shortest : s ≡ s₂
  pub between : w ≡ w₂

pub build_one : (n : Net) (m k : ℕ) (l s w : List ℕ) {r r₂ : Answer} {l' l₂ s' s₂ w' w₂ : List ℕ} → Leaves n m k l s w r l' s' w' → Leaves n m k l s w r₂ l₂ s₂ w₂ → SameOutcome r r₂ l' l₂ s' s₂ w' w₂
build_one n m k l s w x y =
    record {
      answers = x.answer ∙ sym y.answer;
      lightest = x.lightest ∙ sym y.lightest;
      shortest = x.shortest ∙ sym y.shortest;
      between = x.between ∙ sym y.between;
    }

-- WHAT AN ANSWER SAYS
pub says_answer : (x : BuildAnswer) → says_of (answer_of x) ≡ x
says_answer (B.BuildAnswer.built l s b k) = refl
says_answer (B.BuildAnswer.refused r) = refl

pub answer_says : (x : Answer) → answer_of (says_of x) ≡ x
answer_says (Ok x) = refl
answer_says (Err r) = refl

-- so what building says is net's own answer
pub build_says : (n : Net) (m k : ℕ) (l s w : List ℕ) {r : Answer} → r ≡ answer_of (build_of every n m k (lent_of l s w)) → says_of r ≡ build_of every n m k (lent_of l s w)
build_says n m k l s w e = rw e (says_answer (build_of every n m k (lent_of l s w)))
