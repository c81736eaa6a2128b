-- TWO OUTCOMES that a contract allows are equal, for the functions on records: `plan_one`, `rewrite_one`; the others' contracts are equations. And what an answer says in
-- document 01's terms is what reading and then building, writing or margin say (`plan_says`, `rewrite_says`, `margin_says`, `check_says`).
use mathlib.Core.Path.{◌≡◌, refl, sym, ap, ◌∙◌}
use mathlib.Core.List.{List}
use Prim.Native.Nat.{ℕ}
use lib.ListN.{length}
use Rattle.net.specs.Net.{Net, every, most_posts}
use Rattle.net.specs.Refusals.{Lent, says_of}
use Rattle.net.specs.Building.{BuildAnswer, built, refused, build_of}
use Rattle.net.specs.declared.Head.{Head}
use Rattle.net.specs.declared.Tree.{Tree}
use Rattle.building.specs.Answers.{lent_of}
use Rattle.margins.specs.Answers.{margin_says_of}
use Rattle.margins.proofs.Unique.{says_margin_answer}
use Rattle.numbers.specs.Numbers.{Got, got, refused as unread}
use Rattle.writing.specs.Answers.{says_written}
use Rattle.writing.proofs.Outcomes.{says_written_law}
use Rattle.reading.specs.Answers.{check_read}
use Rattle.on_records.specs.Asked.{record_read, planned_with, plan_of, Plans, rewrite_of, Rewrites, margin_said, margin_read}
use Rattle.on_records.specs.Says.{says_planned, built_said, plan_said, rewrite_said, check_said}
use Rattle.net.specs.declared.Plan.{Plan}
use Rattle.net.specs.declared.Refusal.{Refusal}
use Rattle.net.specs.Refusals.{Checked}
use Rattle.margins.specs.Answers.{MarginAnswer}
use Rattle.std.specs.Prelude.{Result}

-- planning: the answer and the three lists
pub record SamePlan (r r₂ : Result Plan Refusal) (l l₂ s s₂ w w₂ : List ℕ) : Type 0 where
  pub answers : r ≡ r₂
  pub lightest : l ≡ l₂
  pub shortest : s ≡ s₂
  pub between : w ≡ w₂

pub plan_one : (bytes l s w : List ℕ) {r r₂ : Result Plan Refusal} {l' l₂ s' s₂ w' w₂ : List ℕ} → Plans bytes l s w r l' s' w' → Plans bytes l s w r₂ l₂ s₂ w₂
    → SamePlan r r₂ l' l₂ s' s₂ w' w₂
plan_one bytes l s w x y =
    record {
      answers = x.answer ∙ sym y.answer;
      lightest = x.lightest ∙ sym y.lightest;
      shortest = x.shortest ∙ sym y.shortest;
      between = x.between ∙ sym y.between;
    }

-- writing again: the answer and the room
pub rewrite_one : (bytes room : List ℕ) {r r₂ : Result ℕ Refusal} {x x₂ : List ℕ} → Rewrites bytes room r x → Rewrites bytes room r₂ x₂ → (r ≡ r₂) × (x ≡ x₂)
rewrite_one bytes room p q = (p.answers ∙ sym q.answers, p.leaves ∙ sym q.leaves)

-- WHAT AN ANSWER SAYS
says_built : (h : Head) (m : ℕ) (x : BuildAnswer) → says_planned (planned_with h m x) ≡ built_said h m x
says_built h m (built l s b k) = refl
says_built h m (refused r) = refl

says_plan : (g : Got Net) (lent : Lent) → says_planned (plan_of g lent) ≡ plan_said g lent
says_plan (got n next) lent = says_built n.head (length n.segments) (build_of every n (length n.segments) most_posts lent)
says_plan (unread r) lent = refl

pub plan_says : (bytes l s w : List ℕ) {r : Result Plan Refusal} {l' s' w' : List ℕ} → Plans bytes l s w r l' s' w' → says_planned r ≡ plan_said (record_read bytes) (lent_of l s w)
plan_says bytes l s w p = ap says_planned p.answer ∙ says_plan (record_read bytes) (lent_of l s w)

says_rewrite : (g : Got Net) (room : ℕ) → says_written (rewrite_of g room) ≡ rewrite_said g room
says_rewrite (got n next) room = says_written_law n (length n.segments) most_posts room
says_rewrite (unread r) room = refl

pub rewrite_says : (bytes room : List ℕ) {r : Result ℕ Refusal} {x : List ℕ} → Rewrites bytes room r x → says_written r ≡ rewrite_said (record_read bytes) (length room)
rewrite_says bytes room p = ap says_written p.answers ∙ says_rewrite (record_read bytes) (length room)

pub margin_says : (bytes : List ℕ) (t : Tree) (post : ℕ) {r : MarginAnswer} → r ≡ margin_read bytes t post → margin_says_of r ≡ margin_said (record_read bytes) t post
margin_says bytes t post p = ap margin_says_of p ∙ says_margin_answer (margin_said (record_read bytes) t post)

says_check : (g : Got Net) → says_of (check_read g) ≡ check_said g
says_check (got n next) = refl
says_check (unread r) = refl

pub check_says : (bytes : List ℕ) {r : Checked} → r ≡ check_read (record_read bytes) → says_of r ≡ check_said (record_read bytes)
check_says bytes p = ap says_of p ∙ says_check (record_read bytes)
