-- `drover_plan` meets its contract: the answer's number, the twelve numbers in the summary or none, and the lists as `on_records::plan` leaves them. Assumes nothing.
use mathlib.Core.Path.{sym, ap, ◌∙◌}
use Rattle.c_numbers.specs.Lists.{front}
use Rattle.c_numbers.proofs.Fronts.{front_none}
use Rattle.c_calls.proofs.Answered.{planned}
use Rattle.c_calls.proofs.drover_plan.Goals as goal
use Rattle.c_calls.proofs.drover_plan.Goals.{in-Ok, in_default}

pub returns : goal.returns
returns c = record {
  planned = elim c.match-answer.branch [
    | in-Ok w ↦ planned c.plan-answer.ensures.planned (w.answer-is ∙ sym w.in-Ok.is) c.refused_number.ensures
        (rw w.answer-is (w.summary-is ∙ w.put_front.ensures.put ∙ ap (λ v. front v c.args.summary.now) w.summary_of.ensures.summed))
    | in_default w ↦ planned c.plan-answer.ensures.planned w.answer-is c.refused_number.ensures
        (rw (w.answer-is, w.in_default.is) (w.summary-is ∙ sym (front_none _)))
  ];
}
