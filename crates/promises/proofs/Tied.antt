-- Every entry's own contract asks nothing and says what Tied has in its row: the two are the same text, but for `number_size`, whose contract says more.
use base.Logic.{id⊢}
use contract.Monad.{fact_mono}
use Rattle.promises.specs.Tied.{Tied}

pub tied : Tied
tied =
    record {
      build = record { asks_nothing = λ w κs x g. id⊢ w.𝓤 _; says = λ w κs x g r e. id⊢ w.𝓤 _ };
      margin = record { asks_nothing = λ w κs x g. id⊢ w.𝓤 _; says = λ w κs x g r e. id⊢ w.𝓤 _ };
      write = record { asks_nothing = λ w κs x g. id⊢ w.𝓤 _; says = λ w κs x g r e. id⊢ w.𝓤 _ };
      read = record { asks_nothing = λ w κs x g. id⊢ w.𝓤 _; says = λ w κs x g r e. id⊢ w.𝓤 _ };
      drawn = record { asks_nothing = λ w κs x g. id⊢ w.𝓤 _; says = λ w κs x g r e. id⊢ w.𝓤 _ };
      plan = record { asks_nothing = λ w κs x g. id⊢ w.𝓤 _; says = λ w κs x g r e. id⊢ w.𝓤 _ };
      rewrite = record { asks_nothing = λ w κs x g. id⊢ w.𝓤 _; says = λ w κs x g r e. id⊢ w.𝓤 _ };
      record_margin = record { asks_nothing = λ w κs x g. id⊢ w.𝓤 _; says = λ w κs x g r e. id⊢ w.𝓤 _ };
      record_check = record { asks_nothing = λ w κs x g. id⊢ w.𝓤 _; says = λ w κs x g r e. id⊢ w.𝓤 _ };
      to_second = record { asks_nothing = λ w κs x g. id⊢ w.𝓤 _; says = λ w κs x g r e. id⊢ w.𝓤 _ };
      to_first = record { asks_nothing = λ w κs x g. id⊢ w.𝓤 _; says = λ w κs x g r e. id⊢ w.𝓤 _ };
      c_check = record { asks_nothing = λ w κs x g. id⊢ w.𝓤 _; says = λ w κs x g r e. id⊢ w.𝓤 _ };
      c_plan = record { asks_nothing = λ w κs x g. id⊢ w.𝓤 _; says = λ w κs x g r e. id⊢ w.𝓤 _ };
      c_rewrite = record { asks_nothing = λ w κs x g. id⊢ w.𝓤 _; says = λ w κs x g r e. id⊢ w.𝓤 _ };
      c_to_second = record { asks_nothing = λ w κs x g. id⊢ w.𝓤 _; says = λ w κs x g r e. id⊢ w.𝓤 _ };
      c_to_first = record { asks_nothing = λ w κs x g. id⊢ w.𝓤 _; says = λ w κs x g r e. id⊢ w.𝓤 _ };
      c_margin = record { asks_nothing = λ w κs x g. id⊢ w.𝓤 _; says = λ w κs x g r e. id⊢ w.𝓤 _ };
      c_drawn = record { asks_nothing = λ w κs x g. id⊢ w.𝓤 _; says = λ w κs x g r e. id⊢ w.𝓤 _ };
      print = record { asks_nothing = λ w κs x g. id⊢ w.𝓤 _; says = λ w κs x g r e. id⊢ w.𝓤 _ };
      hand_on = record { asks_nothing = λ w κs x g. id⊢ w.𝓤 _; says = λ w κs x g r e. id⊢ w.𝓤 _ };
      build_lists = record { asks_nothing = λ w κs x g. id⊢ w.𝓤 _; says = λ w κs x g r e. id⊢ w.𝓤 _ };
      margin_lists = record { asks_nothing = λ w κs x g. id⊢ w.𝓤 _; says = λ w κs x g r e. id⊢ w.𝓤 _ };
      write_lists = record { asks_nothing = λ w κs x g. id⊢ w.𝓤 _; says = λ w κs x g r e. id⊢ w.𝓤 _ };
      read_lists = record { asks_nothing = λ w κs x g. id⊢ w.𝓤 _; says = λ w κs x g r e. id⊢ w.𝓤 _ };
      check_record = record { asks_nothing = λ w κs x g. id⊢ w.𝓤 _; says = λ w κs x g r e. id⊢ w.𝓤 _ };
      number_at = record { asks_nothing = λ w κs x g. id⊢ w.𝓤 _; says = λ w κs x g r e. id⊢ w.𝓤 _ };
      number_size = record { asks_nothing = λ w κs x g. id⊢ w.𝓤 _; says = λ w κs x g r e. fact_mono w.𝓤 _ _ (λ p. p.0) };
      put_number = record { asks_nothing = λ w κs x g. id⊢ w.𝓤 _; says = λ w κs x g r e. id⊢ w.𝓤 _ };
      reader_new = record { asks_nothing = λ w κs x g. id⊢ w.𝓤 _; says = λ w κs x g r e. id⊢ w.𝓤 _ };
      reader_number = record { asks_nothing = λ w κs x g. id⊢ w.𝓤 _; says = λ w κs x g r e. id⊢ w.𝓤 _ };
      reader_moved = record { asks_nothing = λ w κs x g. id⊢ w.𝓤 _; says = λ w κs x g r e. id⊢ w.𝓤 _ };
      reader_behind = record { asks_nothing = λ w κs x g. id⊢ w.𝓤 _; says = λ w κs x g r e. id⊢ w.𝓤 _ };
      check_head = record { asks_nothing = λ w κs x g. id⊢ w.𝓤 _; says = λ w κs x g r e. id⊢ w.𝓤 _ };
      check_ratio = record { asks_nothing = λ w κs x g. id⊢ w.𝓤 _; says = λ w κs x g r e. id⊢ w.𝓤 _ };
      check_own = record { asks_nothing = λ w κs x g. id⊢ w.𝓤 _; says = λ w κs x g r e. id⊢ w.𝓤 _ };
      check_numbers = record { asks_nothing = λ w κs x g. id⊢ w.𝓤 _; says = λ w κs x g r e. id⊢ w.𝓤 _ };
      check_segment = record { asks_nothing = λ w κs x g. id⊢ w.𝓤 _; says = λ w κs x g r e. id⊢ w.𝓤 _ };
      check = record { asks_nothing = λ w κs x g. id⊢ w.𝓤 _; says = λ w κs x g r e. id⊢ w.𝓤 _ };
      segment_count = record { asks_nothing = λ w κs x g. id⊢ w.𝓤 _; says = λ w κs x g r e. id⊢ w.𝓤 _ };
    }
