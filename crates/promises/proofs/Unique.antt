-- Two outcomes of an entry are equal: the laws of the crates, over the entries' own contracts.
use mathlib.Core.Path.{◌≡◌, sym, ◌∙◌}
use base.Logic.{ent}
use contract.Monad.{fact, fact_i, fact_use, conj, conj_l, conj_r}
use borrow.Fn.World.{World}
use Rattle.building.proofs.Unique.{build_one}
use Rattle.reading.proofs.Outcomes.{read_unique}
use Rattle.writing.proofs.Outcomes.{write_unique}
use Rattle.on_records.proofs.Unique as on-records
use Rattle.moves.proofs.Outcomes.{move_one}
use Rattle.moving.proofs.Given.{hands_one}
use Rattle.c_calls.proofs.Unique as c-calls
use Rattle.promises.specs.Unique.{Unique}

-- what follows from two plain facts holds where both hold
both : (w : World) {φ ψ χ : Type 0} → (φ → ψ → χ) → ent w.𝓤 (conj w.𝓤 (fact w.𝓤 φ) (fact w.𝓤 ψ)) (fact w.𝓤 χ)
both w {φ} {ψ} {χ} f =
    fact_use w.𝓤 φ (conj_l w.𝓤 (fact w.𝓤 φ) (fact w.𝓤 ψ)) (λ p.
    fact_use w.𝓤 ψ (conj_r w.𝓤 (fact w.𝓤 φ) (fact w.𝓤 ψ)) (λ q.
    fact_i w.𝓤 χ (conj w.𝓤 (fact w.𝓤 φ) (fact w.𝓤 ψ)) (f p q)))

-- an answer that is said by an equation, with nothing lent
same : {X Y : Type 0} {r q z : X} {e : Y} → r ≡ z → q ≡ z → (r ≡ q) × (e ≡ e)
same {e = e} p k = (p ∙ sym k, λ i. e)

pub unique : Unique
unique =
    record {
      build = λ w κs x g r q e o. both w (λ p k. let z = build_one _ _ _ _ _ _ p k in (z.answers, λ i. (tt, (tt, (tt, (z.lightest i, (z.shortest i, (z.between i, tt))))))));
      margin = λ w κs x g r q e o. both w same;
      write = λ w κs x g r q e o. both w (λ p k. let z = write_unique _ _ _ _ _ _ _ _ p k in (z.0, λ i. (tt, (tt, (tt, (z.1 i, tt))))));
      read = λ w κs x g r q e o. both w (λ p k. (p.answers ∙ sym k.answers, λ i. (tt, ((p.p_is ∙ sym k.p_is) i, ((p.q_is ∙ sym k.q_is) i, ((p.list_is ∙ sym k.list_is) i, tt))))));
      drawn = λ w κs x g r q e o. both w same;
      plan = λ w κs x g r q e o. both w (λ p k. let z = on-records.plan_one _ _ _ _ p k in (z.answers, λ i. (tt, (z.lightest i, (z.shortest i, (z.between i, tt))))));
      rewrite = λ w κs x g r q e o. both w (λ p k. let z = on-records.rewrite_one _ _ p k in (z.0, λ i. (tt, (z.1 i, tt))));
      record_margin = λ w κs x g r q e o. both w same;
      record_check = λ w κs x g r q e o. both w same;
      to_second = λ w κs x g r q e o. both w (λ p k. let z = move_one _ _ _ p k in (z.0, λ i. (tt, (z.1 i, tt))));
      to_first = λ w κs x g r q e o. both w (λ p k. let z = move_one _ _ _ p k in (z.0, λ i. (tt, (z.1 i, tt))));
      c_check = λ w κs x g r q e o. both w same;
      c_plan = λ w κs x g r q e o. both w (λ p k. let z = c-calls.plan_one _ _ _ _ _ p k in (z.numbers, λ i. (tt, (z.lightest i, (z.shortest i, (z.between i, (z.summary i, tt)))))));
      c_rewrite = λ w κs x g r q e o. both w (λ p k. let z = c-calls.rewrite_one _ _ p k in (z.0, λ i. (tt, (z.1 i, tt))));
      c_to_second = λ w κs x g r q e o. both w (λ p k. let z = c-calls.move_one _ _ _ p k in (z.0, λ i. (tt, (z.1 i, tt))));
      c_to_first = λ w κs x g r q e o. both w (λ p k. let z = c-calls.move_one _ _ _ p k in (z.0, λ i. (tt, (z.1 i, tt))));
      c_margin = λ w κs x g r q e o. both w (λ p k. let z = c-calls.margin_one _ _ _ _ p k in (z.0, λ i. (tt, (tt, (tt, (z.1 i, tt))))));
      c_drawn = λ w κs x g r q e o. both w same;
      print = λ w κs x g r q e o. both w (λ p k. (p.puts.behind ∙ sym k.puts.behind, λ i. (tt, (tt, ((p.puts.holds ∙ sym k.puts.holds) i, tt)))));
      hand_on = λ w κs x g r q e o. both w (λ p k. let z = hands_one p.hands k.hands in (z.0, λ i. (tt, (tt, (tt, (z.1 i, tt))))));
      build_lists = λ w κs x g r q e o. both w (λ p k. let z = build_one _ _ _ _ _ _ p k in (z.answers, λ i. (tt, (z.lightest i, (z.shortest i, (z.between i, tt))))));
      margin_lists = λ w κs x g r q e o. both w same;
      write_lists = λ w κs x g r q e o. both w (λ p k. let z = write_unique _ _ _ _ _ _ _ _ p k in (z.0, λ i. (tt, (z.1 i, tt))));
      read_lists = λ w κs x g r q e o. both w (λ p k. let z = read_unique _ _ _ _ _ _ _ _ _ _ _ _ _ _ _ _ _ _ p k in (z.0, λ i. (tt, (z.1 i, (z.2 i, (z.3 i, (z.4 i, (z.5 i, tt))))))));
      check_record = λ w κs x g r q e o. both w same;
      number_at = λ w κs x g r q e o. both w same;
      number_size = λ w κs x g r q e o. both w (λ p k. same p.0 k.0);
      put_number = λ w κs x g r q e o. both w (λ p k. p.0 ∙ sym k.0);
      reader_new = λ w κs x g r q e o. both w same;
      reader_number = λ w κs x g r q e o. both w same;
      reader_moved = λ w κs x g r q e o. both w same;
      reader_behind = λ w κs x g r q e o. both w same;
      check_head = λ w κs x g r q e o. both w same;
      check_ratio = λ w κs x g r q e o. both w same;
      check_own = λ w κs x g r q e o. both w same;
      check_numbers = λ w κs x g r q e o. both w same;
      check_segment = λ w κs x g r q e o. both w same;
      check = λ w κs x g r q e o. both w same;
      segment_count = λ w κs x g r q e o. both w same;
    }
