-- `drover_margin` meets its contract: the answer's number, and the margin in the list's first entry or none. Assumes nothing.
use mathlib.Core.Path.{sym, ap, ◌∙◌}
use mathlib.Core.List.{[], ◌∷◌}
use native.Mathlib.Omega.{arith}
use Rattle.margins.proofs.Margins.{back}
use Rattle.c_numbers.specs.Lists.{front}
use Rattle.c_numbers.proofs.Fronts.{front_none}
use Rattle.c_calls.proofs.Answered.{measured}
use Rattle.c_calls.proofs.drover_margin.Goals as goal
use Rattle.c_calls.proofs.drover_margin.Goals.{in-Ok, in_default}

pub returns : goal.returns
returns c = record {
  measured = elim c.match-answer.branch [
    | in-Ok w ↦ measured _ _ _ c.tree_named.ensures.named c.margin-answer.ensures.measured (w.answer-is ∙ sym w.in-Ok.is) c.refused_number.ensures
        (rw w.answer-is (w.out-is ∙ w.put_front.ensures.put ∙ ap (λ z. front (z ∷ []) c.args.out.now) (back _ (omega arith))))
    | in_default w ↦ measured _ _ _ c.tree_named.ensures.named c.margin-answer.ensures.measured w.answer-is c.refused_number.ensures
        (rw (w.answer-is, w.in_default.is) (w.out-is ∙ sym (front_none _)))
  ];
}
