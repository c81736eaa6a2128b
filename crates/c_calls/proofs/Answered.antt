-- From what `on_records` and `moves` answer to what the functions for C leave. Relies on their contracts and on c_numbers' `Fronts`.
use mathlib.Core.Path.{◌≡◌, ap, ◌∙◌}
use mathlib.Core.List.{List}
use Prim.Native.Nat.{ℕ}
use lib.IntN.{ℤ}
use Rattle.std.specs.Prelude.{Result}
use Rattle.net.specs.declared.Plan.{Plan}
use Rattle.net.specs.declared.Refusal.{Refusal}
use Rattle.net.specs.declared.Tree.{Tree}
use Rattle.on_records.specs.Asked.{Plans, margin_read}
use Rattle.c_numbers.specs.Named.{the_tree_named}
use Rattle.c_numbers.specs.Lists.{front}
use Rattle.c_calls.specs.Numbers.{plan_number, margin_number}
use Rattle.c_calls.specs.Left.{summary_after, margins_of, PlanLeaves, MarginLeaves}

-- PLAN: b is the answer a, x its number and d' what the summary holds then
pub planned : {bytes l s w : List ℕ} {a b : Result Plan Refusal} {l' s' w' : List ℕ} → Plans bytes l s w a l' s' w' → b ≡ a → {d d' : List ℕ} {x : ℕ} → x ≡ plan_number b
    → d' ≡ summary_after b d → PlanLeaves bytes l s w d x l' s' w' d'
planned p i {d} e f =
    let k = i ∙ p.answer in
    record {
      number = e ∙ ap plan_number k;
      lightest = p.lightest;
      shortest = p.shortest;
      between = p.between;
      summary = f ∙ ap (λ (t : Result Plan Refusal). summary_after t d) k;
    }

-- MARGIN: b is the answer a, x its number and d' what the list holds then
pub measured : (bytes : List ℕ) (tree post : ℕ) {t : Tree} {a b : Result ℤ Refusal} → t ≡ the_tree_named tree → a ≡ margin_read bytes t post → b ≡ a → {d d' : List ℤ} {x : ℕ}
    → x ≡ margin_number b → d' ≡ front (margins_of b) d → MarginLeaves bytes tree post d x d'
measured bytes tree post i p j {d} e f =
    let k = j ∙ p ∙ ap (λ (u : Tree). margin_read bytes u post) i in
    record { number = e ∙ ap margin_number k; list = f ∙ ap (λ (t : Result ℤ Refusal). front (margins_of t) d) k }
