-- Demand 1: the rules, and every entry from its own contract.
use mathlib.Core.Path.{◌≡◌, refl, sym, ap, ◌∙◌}
use mathlib.Core.List.{List, []}
use mathlib.Core.Option.{Option, none, some}
use Prim.Native.Nat.{ℕ}
use native.Mathlib.Omega.{arith}
use contract.Monad.{fact_mono}
use lib.IntN.{ℤ}
use lib.ListN.{length}
use Rattle.net.specs.Net.{Ratio, Net, every, most_posts, ratios_of, segments_of}
use Rattle.net.specs.Refusals.{says_of as checkSays}
use Rattle.net.specs.Building.{build_refusal, build_answer, build_of, list_after, after_build, margin_refusal, margin_answer, margin_of}
use Rattle.net.specs.Building as B
use Rattle.net.specs.declared.Form.{Form}
use Rattle.net.specs.declared.Segment.{Segment}
use Rattle.net.specs.declared.Refusal.{Refusal}
use Rattle.net.specs.declared.Tree.{Tree}
use Rattle.net.specs.declared.Tree.TheVariants.{Lightest, Shortest, Between}
use Rattle.net.proofs.Refusals.{build_answers, build_only, nine_exactly, not_joined_exactly, margin_answers, margin_only}
use Rattle.building.specs.Answers.{answer_of, says_of, lent_of, Leaves}
use Rattle.margins.specs.Answers.{margin_answer_of, margin_says_of}
use Rattle.building.proofs.Meaning.{refused_exactly}
use Rattle.building.proofs.Unique.{answer_says}
use Rattle.margins.proofs.Unique.{margin_answer_says}
use Rattle.numbers.specs.Numbers.{Got, got, refused}
use Rattle.reading.specs.Reading.{longest_record, net_read}
use Rattle.writing.specs.Writing.{net_written, write_refusal, after_writing, the_room_after}
use Rattle.reading.specs.Answers.{read_answer, says_by, check_read, ratios_read, ReadsLists}
use Rattle.reading.specs.Answers.{list_read as numbersRead}
use Rattle.writing.specs.Answers.{refusal_of, write_answer_by, write_answer_of, says_written, Writes}
use Rattle.reading.proofs.Ruled.{read_answers, read_only}
use Rattle.writing.proofs.RuledWriting.{write_answers, write_only}
use Rattle.on_segments.specs.Reading.{list_read, Reads}
use Rattle.on_records.specs.Asked.{record_read, planned_with, plan_of, tree_list, Plans, rewrite_of, room_of, Rewrites, margin_said, margin_read}
use Rattle.on_records.specs.Says.{says_planned}
use Rattle.moves.specs.Moves.{in_form, move_refusal, move_of, room_moved, Moves}
use Rattle.moves.proofs.Ruled.{move_answers, move_only}
use Rattle.lines.specs.Text.{refused_line}
use Rattle.moving.specs.Handing.{for_error, handing_by, handing_of, handing, handed_as, Hands}
use Rattle.moving.proofs.Given.{hands_same}
use Rattle.c_numbers.specs.Named.{packed, marked, the_tree_named}
use Rattle.c_numbers.specs.Lists.{front}
use Rattle.c_numbers.proofs.Fronts.{front_none}
use Rattle.c_calls.specs.Numbers.{check_number, plan_number, the_write_number, margin_number, drawn_number}
use Rattle.c_calls.specs.Left.{summary_of, margins_of, PlanLeaves, RewriteLeaves, MoveLeaves, MarginLeaves}
use Rattle.c_calls.proofs.Unique.{packed_same, marked_same, no_length_marked}
use Rattle.drawn.specs.declared.Run.{Run}
use Rattle.drawn.specs.Drawn.{drawn_of}
use Rattle.drawn.specs.Says.{sixteenths, refused as undrawn, says_of as drawn_says}
use Rattle.drawn.specs.Rules.{Answers}
use Rattle.drawn.proofs.Rules.{drawn_only, outcome_answers, outcome_only, drawn_refused_with}
use Rattle.promises.specs.Demand1.{Refuses, RefusesInNumber, BuildRefuses, MarginRefuses, ReadRefuses, WriteRefuses, CheckRefuses, HandRefuses, OnRecord, by_reading, by_net, Unplanned, Unwritten, Unmoved, Unmeasured, Demand1}
use Rattle.promises.proofs.Moves.{back_exactly}
use Rattle.net.specs.Refusals.{Checked}
use Rattle.margins.specs.Answers.{MarginAnswer}
use Rattle.net.specs.declared.Plan.{Plan}
use Rattle.net.specs.declared.Counted.{Counted}
use Rattle.building.specs.Answers.{Answer}
use Rattle.std.specs.Prelude.{Result, Ok, Err}

module _ (n : Net) (m k : ℕ) (l s w : List ℕ) where
  kept : (r : Refusal) → build_refusal every n m k (lent_of l s w) ≡ some r → (t : Tree) (before now : List ℕ) → now ≡ after_build every n m k (lent_of l s w) t before → now ≡ before
  unfolding after_build list_after
  kept r e t before now i = i ∙ ap (λ x. list_after every n x t before) e

  pub build_refuses : {a : Answer} {l' s' w' : List ℕ} → Leaves n m k l s w a l' s' w' → BuildRefuses n m k l s w a l' s' w'
  build_refuses {a} left =
      record {
        refuses = λ r e. (
          ap says_of ((refused_exactly n m k (lent_of l s w) left.answer r).1 e),
          (kept r e _ _ _ left.lightest, kept r e _ _ _ left.shortest, kept r e _ _ _ left.between),
        );
        only_then = λ r e. (refused_exactly n m k (lent_of l s w) left.answer r).0 (sym (answer_says a) ∙ ap answer_of e);
      }

module _ (n : Net) (m k : ℕ) (t : Tree) (post : ℕ) where
  margin_held : {r : Refusal} (o : Option Refusal) → margin_answer_of (margin_answer every n o t post) ≡ Err r → o ≡ some r
  unfolding margin_answer
  margin_held none e = absurd (let z : ◌≡◌ {A = ℕ} 0 1 = cc in omega arith)
  margin_held (some s) e = cc

  refused_margin : {a : MarginAnswer} → a ≡ margin_answer_of (margin_of every n m k t post) → (r : Refusal) → margin_refusal every n m k post ≡ some r
      → margin_says_of a ≡ B.MarginAnswer.refused r
  unfolding margin_of margin_answer
  refused_margin i r e = ap margin_says_of (i ∙ ap (λ x. margin_answer_of (margin_answer every n x t post)) e)

  margin_refused : {a : MarginAnswer} → a ≡ margin_answer_of (margin_of every n m k t post) → (r : Refusal) → margin_says_of a ≡ B.MarginAnswer.refused r
      → margin_refusal every n m k post ≡ some r
  unfolding margin_of
  margin_refused {a} i r e = margin_held (margin_refusal every n m k post) (sym i ∙ sym (margin_answer_says a) ∙ ap margin_answer_of e)

  pub margin_refuses : {a : MarginAnswer} → a ≡ margin_answer_of (margin_of every n m k t post) → MarginRefuses n m k post a
  margin_refuses i = record { refuses = λ r e. (refused_margin i r e, tt); only_then = margin_refused i }

read_held : {r : Refusal} (g : Got Net) (rs : List Ratio) (ss : List Segment) → says_by (read_answer g) rs ss ≡ refusal_of r → g ≡ refused r
read_held (got n next) rs ss e = absurd (let k : ◌≡◌ {A = ℕ} 0 1 = cc in omega arith)
read_held (refused s) rs ss e = cc

-- what reading answers is its refusal exactly where it refuses
module _ (bytes : List ℕ) (room ratioRoom : ℕ) {a : Result Counted Refusal} (is : a ≡ read_answer (net_read bytes room ratioRoom 0)) (rs : List Ratio) (ss : List Segment) where
  read_says : (r : Refusal) → net_read bytes room ratioRoom 0 ≡ refused r → says_by a rs ss ≡ refusal_of r
  read_says r e = ap (λ b. says_by b rs ss) (is ∙ ap read_answer e)

  read_only_then : (r : Refusal) → says_by a rs ss ≡ refusal_of r → net_read bytes room ratioRoom 0 ≡ refused r
  read_only_then r e = read_held (net_read bytes room ratioRoom 0) rs ss (ap (λ b. says_by b rs ss) (sym is) ∙ e)

pub read_refuses : (bytes p q : List ℕ) (l : List Segment) {p' q' : List ℕ} {l' : List Segment} {a : Result Counted Refusal} → Reads bytes p q l a p' q' l'
    → ReadRefuses bytes (length l) (length (ratios_of p q)) a (ratios_of p' q') l' ((p' ≡ p) × (q' ≡ q) × (l' ≡ l))
read_refuses bytes p q l {p'} {q'} {l'} k =
    record {
      refuses = λ r e. (
        read_says bytes (length l) (length (ratios_of p q)) k.answers (ratios_of p' q') l' r e,
        (k.p_is ∙ ap (λ g. ratios_read (λ o. o.p) g p) e, k.q_is ∙ ap (λ g. ratios_read (λ o. o.q) g q) e, k.list_is ∙ ap (λ g. list_read g l) e),
      );
      only_then = read_only_then bytes (length l) (length (ratios_of p q)) k.answers (ratios_of p' q') l';
    }

pub read_lists_refuses : {bytes p q x y z p' q' x' y' z' : List ℕ} {a : Result Counted Refusal} → ReadsLists bytes p q x y z a p' q' x' y' z'
    → ReadRefuses bytes (length (segments_of x y z)) (length (ratios_of p q)) a (ratios_of p' q') (segments_of x' y' z') ((p' ≡ p) × (q' ≡ q) × (x' ≡ x) × (y' ≡ y) × (z' ≡ z))
read_lists_refuses {bytes} {p} {q} {x} {y} {z} {p'} {q'} {x'} {y'} {z'} k =
    record {
      refuses = λ r e. (
        read_says bytes (length (segments_of x y z)) (length (ratios_of p q)) k.answers (ratios_of p' q') (segments_of x' y' z') r e,
        (
          k.p_is ∙ ap (λ g. ratios_read (λ o. o.p) g p) e,
          k.q_is ∙ ap (λ g. ratios_read (λ o. o.q) g q) e,
          k.a_is ∙ ap (λ g. numbersRead (λ v. v.a) g x) e,
          k.b_is ∙ ap (λ g. numbersRead (λ v. v.b) g y) e,
          k.lengths_are ∙ ap (λ g. numbersRead (λ v. v.length) g z) e,
        ),
      );
      only_then = read_only_then bytes (length (segments_of x y z)) (length (ratios_of p q)) k.answers (ratios_of p' q') (segments_of x' y' z');
    }

module _ (n : Net) (m k : ℕ) (room : List ℕ) where
  write_held : {r : Refusal} (o : Option Refusal) → says_written (write_answer_by o (length (net_written n))) ≡ refusal_of r → o ≡ some r
  write_held none e = absurd (let z : ◌≡◌ {A = ℕ} 0 1 = cc in omega arith)
  write_held (some s) e = cc

  refused_write : {a : Result ℕ Refusal} {x : List ℕ} → Writes n m k room a x → (r : Refusal) → write_refusal n m k (length room) ≡ some r → (says_written a ≡ refusal_of r) × (x ≡ room)
  unfolding write_answer_of the_room_after
  refused_write w r e = (ap says_written (w.answers ∙ ap (λ o. write_answer_by o (length (net_written n))) e), w.leaves ∙ ap (λ o. after_writing o n room) e)

  write_refused : {a : Result ℕ Refusal} {x : List ℕ} → Writes n m k room a x → (r : Refusal) → says_written a ≡ refusal_of r → write_refusal n m k (length room) ≡ some r
  unfolding write_answer_of
  write_refused w r e = write_held (write_refusal n m k (length room)) (ap says_written (sym w.answers) ∙ e)

  pub write_refuses : {a : Result ℕ Refusal} {x : List ℕ} → Writes n m k room a x → WriteRefuses n m k room a x
  write_refuses w = record { refuses = refused_write w; only_then = write_refused w }

module _ (bytes l s w : List ℕ) where
  unread_plan : {a : Result Plan Refusal} {l' s' w' : List ℕ} → Plans bytes l s w a l' s' w'
      → (r : Refusal) → record_read bytes ≡ refused r → (says_planned a ≡ refusal_of r) × (l' ≡ l) × (s' ≡ s) × (w' ≡ w)
  unread_plan k r e = (
    ap says_planned (k.answer ∙ ap (λ g. plan_of g (lent_of l s w)) e),
    k.lightest ∙ ap (λ g. tree_list g (lent_of l s w) Lightest l) e,
    k.shortest ∙ ap (λ g. tree_list g (lent_of l s w) Shortest s) e,
    k.between ∙ ap (λ g. tree_list g (lent_of l s w) Between w) e,
  )

  unbuilt_plan : {a : Result Plan Refusal} {l' s' w' : List ℕ} → Plans bytes l s w a l' s' w' → (n : Net) (next : ℕ) → record_read bytes ≡ got n next
      → (r : Refusal) → build_refusal every n (length n.segments) most_posts (lent_of l s w) ≡ some r → (says_planned a ≡ refusal_of r) × (l' ≡ l) × (s' ≡ s) × (w' ≡ w)
  unfolding build_of build_answer
  unbuilt_plan k n next i r e = (
    ap says_planned (k.answer ∙ ap (λ g. plan_of g (lent_of l s w)) i ∙ ap (λ o. planned_with n.head (length n.segments) (build_answer every n o)) e),
    kept n (length n.segments) most_posts l s w r e Lightest l _ (k.lightest ∙ ap (λ g. tree_list g (lent_of l s w) Lightest l) i),
    kept n (length n.segments) most_posts l s w r e Shortest s _ (k.shortest ∙ ap (λ g. tree_list g (lent_of l s w) Shortest s) i),
    kept n (length n.segments) most_posts l s w r e Between w _ (k.between ∙ ap (λ g. tree_list g (lent_of l s w) Between w) i),
  )

  refused_plan : {a : Result Plan Refusal} {l' s' w' : List ℕ} → Plans bytes l s w a l' s' w' → (r : Refusal)
      → OnRecord bytes (λ n. build_refusal every n (length n.segments) most_posts (lent_of l s w)) r → (says_planned a ≡ refusal_of r) × (l' ≡ l) × (s' ≡ s) × (w' ≡ w)
  refused_plan k r (by_reading e) = unread_plan k r e
  refused_plan k r (by_net n next i e) = unbuilt_plan k n next i r e

  built_held : {r : Refusal} (n : Net) (o : Option Refusal) → says_planned (planned_with n.head (length n.segments) (build_answer every n o)) ≡ refusal_of r → o ≡ some r
  unfolding build_answer
  built_held n none e = absurd (let k : ◌≡◌ {A = ℕ} 0 1 = cc in omega arith)
  built_held n (some x) e = cc

  plan_held : {r : Refusal} (g : Got Net) → record_read bytes ≡ g → says_planned (plan_of g (lent_of l s w)) ≡ refusal_of r
      → OnRecord bytes (λ n. build_refusal every n (length n.segments) most_posts (lent_of l s w)) r
  unfolding build_of
  plan_held (got n next) i e = by_net n next i (built_held n (build_refusal every n (length n.segments) most_posts (lent_of l s w)) e)
  plan_held {r} (refused x) i e = by_reading (i ∙ (let k : ◌≡◌ {A = Got Net} (refused x) (refused r) = cc in k))

  pub plan_refuses : {a : Result Plan Refusal} {l' s' w' : List ℕ} → Plans bytes l s w a l' s' w'
      → Refuses (Unplanned bytes (lent_of l s w)) (λ r. says_planned a ≡ refusal_of r) ((l' ≡ l) × (s' ≡ s) × (w' ≡ w))
  plan_refuses k =
      record {
        refuses = λ r u. (let z = refused_plan k r u in (z.0, (z.1, z.2, z.3)));
        only_then = λ r e. plan_held (record_read bytes) refl (ap says_planned (sym k.answer) ∙ e);
      }

module _ (bytes room : List ℕ) where
  refused_rewrite : {a : Result ℕ Refusal} {x : List ℕ} → Rewrites bytes room a x → (r : Refusal)
      → OnRecord bytes (λ n. write_refusal n (length n.segments) most_posts (length room)) r → (says_written a ≡ refusal_of r) × (x ≡ room)
  refused_rewrite k r (by_reading e) = (ap says_written (k.answers ∙ ap (λ g. rewrite_of g (length room)) e), k.leaves ∙ ap (λ g. room_of g room) e)
  refused_rewrite k r (by_net n next i e) =
      refused_write n (length n.segments) most_posts room
      (record { answers = k.answers ∙ ap (λ g. rewrite_of g (length room)) i; leaves = k.leaves ∙ ap (λ g. room_of g room) i })
      r
      e

  rewrite_held : {r : Refusal} (g : Got Net) → record_read bytes ≡ g → says_written (rewrite_of g (length room)) ≡ refusal_of r
      → OnRecord bytes (λ n. write_refusal n (length n.segments) most_posts (length room)) r
  unfolding write_answer_of
  rewrite_held (got n next) i e = by_net n next i (write_held n (length n.segments) most_posts room (write_refusal n (length n.segments) most_posts (length room)) e)
  rewrite_held {r} (refused x) i e = by_reading (i ∙ (let k : ◌≡◌ {A = Got Net} (refused x) (refused r) = cc in k))

  pub rewrite_refuses : {a : Result ℕ Refusal} {x : List ℕ} → Rewrites bytes room a x → Refuses (Unwritten bytes (length room)) (λ r. says_written a ≡ refusal_of r) (x ≡ room)
  rewrite_refuses k = record { refuses = refused_rewrite k; only_then = λ r e. rewrite_held (record_read bytes) refl (ap says_written (sym k.answers) ∙ e) }

-- a move of a record
module _ (f : Form) (bytes room : List ℕ) where
  refused_move : {a : Result ℕ Refusal} {x : List ℕ} → Moves f bytes room a x → (r : Refusal) → OnRecord bytes (λ n. move_refusal f n (length room)) r → (says_written a ≡ refusal_of r) × (x ≡ room)
  refused_move k r (by_reading e) = (ap says_written (k.answers ∙ ap (λ g. move_of f g (length room)) e), k.leaves ∙ ap (λ g. room_moved f g room) e)
  refused_move k r (by_net n next i e) = (
    ap says_written (k.answers ∙ ap (λ g. move_of f g (length room)) i ∙ ap (λ o. write_answer_by o (length (net_written (in_form f n)))) e),
    k.leaves ∙ ap (λ g. room_moved f g room) i ∙ ap (λ o. after_writing o (in_form f n) room) e,
  )

  move_held : {r : Refusal} (g : Got Net) → record_read bytes ≡ g → says_written (move_of f g (length room)) ≡ refusal_of r → OnRecord bytes (λ n. move_refusal f n (length room)) r
  move_held (got n next) i e = by_net n next i (write_held (in_form f n) 0 0 room (move_refusal f n (length room)) e)
  move_held {r} (refused x) i e = by_reading (i ∙ (let k : ◌≡◌ {A = Got Net} (refused x) (refused r) = cc in k))

  pub move_refuses : {a : Result ℕ Refusal} {x : List ℕ} → Moves f bytes room a x → Refuses (Unmoved f bytes (length room)) (λ r. says_written a ≡ refusal_of r) (x ≡ room)
  move_refuses k = record { refuses = refused_move k; only_then = λ r e. move_held (record_read bytes) refl (ap says_written (sym k.answers) ∙ e) }

-- what is handed on for it: the line of a refusal exactly where the rules refuse
module _ (f : Form) (bytes out : List ℕ) where
  refused_handing : (r : Refusal) → Unmoved f bytes longest_record r → handing f bytes ≡ for_error (refused_line r.number r.place)
  unfolding handing
  refused_handing r (by_reading e) = ap (handing_of f) e
  refused_handing r (by_net n next i e) = ap (handing_of f) i ∙ ap (λ o. handing_by o (net_written (in_form f n))) e

  hand_held : {size : ℕ} (g : Got Net) → record_read bytes ≡ g → handed_as (handing_of f g) ≡ Err size → (r : Refusal) × Unmoved f bytes longest_record r
  hand_held (refused x) i e = (x, by_reading i)
  hand_held {size} (got n next) i e = by (move_refusal f n longest_record) refl e
    where
      by : (o : Option Refusal) → move_refusal f n longest_record ≡ o → handed_as (handing_by o (net_written (in_form f n))) ≡ Err size → (r : Refusal) × Unmoved f bytes longest_record r
      by none k e = absurd (let z : ◌≡◌ {A = ℕ} 0 1 = cc in omega arith)
      by (some r) k e = (r, by_net n next i k)

  pub hand_refuses : {a : Result ℕ ℕ} {x : List ℕ} → Hands (handing f bytes) out a x → HandRefuses f bytes out a x
  unfolding handing
  hand_refuses p = record { refuses = λ r u. hands_same p (refused_handing r u); only_then = λ size e. hand_held (record_read bytes) refl (sym p.answers ∙ e) }

module _ (bytes : List ℕ) (t : Tree) (post : ℕ) where
  refused_record_margin : {a : MarginAnswer} → a ≡ margin_read bytes t post → (r : Refusal) → OnRecord bytes (λ n. margin_refusal every n (length n.segments) most_posts post) r
      → margin_says_of a ≡ B.MarginAnswer.refused r
  refused_record_margin k r (by_reading e) = ap margin_says_of (k ∙ ap (λ g. margin_answer_of (margin_said g t post)) e)
  refused_record_margin k r (by_net n next i e) = refused_margin n (length n.segments) most_posts t post (k ∙ ap (λ g. margin_answer_of (margin_said g t post)) i) r e

  record_margin_held : {r : Refusal} (g : Got Net) → record_read bytes ≡ g → margin_says_of (margin_answer_of (margin_said g t post)) ≡ B.MarginAnswer.refused r
      → OnRecord bytes (λ n. margin_refusal every n (length n.segments) most_posts post) r
  record_margin_held {r} (got n next) i e = by_net n next i (margin_refused n (length n.segments) most_posts t post refl r e)
  record_margin_held {r} (refused x) i e = by_reading (i ∙ (let k : ◌≡◌ {A = Got Net} (refused x) (refused r) = cc in k))

  pub record_margin_refuses : {a : MarginAnswer} → a ≡ margin_read bytes t post → Refuses (Unmeasured bytes post) (λ r. margin_says_of a ≡ B.MarginAnswer.refused r) Unit
  record_margin_refuses k =
      record { refuses = λ r u. (refused_record_margin k r u, tt); only_then = λ r e. record_margin_held (record_read bytes) refl (ap margin_says_of (sym k) ∙ e) }

check_held : {r : Refusal} (g : Got Net) → checkSays (check_read g) ≡ some r → g ≡ refused r
check_held (got n next) e = absurd (let k : ◌≡◌ {A = ℕ} 0 1 = cc in omega arith)
check_held (refused x) e = cc

pub check_refuses : (g : Got Net) {a : Checked} → a ≡ check_read g → CheckRefuses g a
check_refuses g k = record { refuses = λ r e. (ap checkSays (k ∙ ap check_read e), tt); only_then = λ r e. check_held g (ap checkSays (sym k) ∙ e) }

-- FOR C. An answer's number, where it says a refusal and where it says none
check_zero : (g : Got Net) → ((r : Refusal) → g ≡ refused r → ⊥) → check_number (check_read g) ≡ 0
check_zero (got n next) h = refl
check_zero (refused r) h = absurd (h r refl)

plan_number_law : (a : Result Plan Refusal) (r : Refusal) → says_planned a ≡ refusal_of r → (plan_number a ≡ packed r) × (summary_of a ≡ [])
plan_number_law (Ok x) r e = absurd (let q : ◌≡◌ {A = ℕ} 0 1 = cc in omega arith)
plan_number_law (Err q) r e = (ap packed (let i : q ≡ r = cc in i), refl)

plan_zero : (a : Result Plan Refusal) → ((r : Refusal) → says_planned a ≡ refusal_of r → ⊥) → plan_number a ≡ 0
plan_zero (Ok x) f = refl
plan_zero (Err q) f = absurd (f q refl)

write_number_law : (a : Result ℕ Refusal) (r : Refusal) → says_written a ≡ refusal_of r → the_write_number a ≡ marked r
write_number_law (Ok k) r e = absurd (let q : ◌≡◌ {A = ℕ} 0 1 = cc in omega arith)
write_number_law (Err q) r e = ap marked (let i : q ≡ r = cc in i)

write_size : (o : Option Refusal) (size : ℕ) → ((r : Refusal) → o ≡ some r → ⊥) → the_write_number (write_answer_by o size) ≡ size
write_size none size h = refl
write_size (some r) size h = absurd (h r refl)

margin_number_law : (a : MarginAnswer) (r : Refusal) → margin_says_of a ≡ B.MarginAnswer.refused r → (margin_number a ≡ packed r) × (margins_of a ≡ [])
margin_number_law (Ok z) r e = absurd (let q : ◌≡◌ {A = ℕ} 0 1 = cc in omega arith)
margin_number_law (Err q) r e = (ap packed (let i : q ≡ r = cc in i), refl)

margin_zero : (a : MarginAnswer) → ((r : Refusal) → margin_says_of a ≡ B.MarginAnswer.refused r → ⊥) → margin_number a ≡ 0
margin_zero (Ok z) f = refl
margin_zero (Err q) f = absurd (f q refl)

drawn_number_law : (a : Result ℕ Refusal) (r : Refusal) → drawn_says a ≡ undrawn r.number r.place → drawn_number a ≡ marked r
drawn_number_law (Ok k) r e = absurd (let q : ◌≡◌ {A = ℕ} 0 1 = cc in omega arith)
drawn_number_law (Err q) r e = let i : q.number ≡ r.number = cc in let j : q.place ≡ r.place = cc in rw (i, j)

drawn_length : (a : Result ℕ Refusal) (k : ℕ) → drawn_says a ≡ sixteenths k → drawn_number a ≡ k
drawn_length (Ok j) k e = cc
drawn_length (Err q) k e = absurd (let z : ◌≡◌ {A = ℕ} 0 1 = cc in omega arith)

pub c_check_refuses : (bytes : List ℕ) {a : ℕ} → a ≡ check_number (check_read (record_read bytes)) → RefusesInNumber (λ r. record_read bytes ≡ refused r) (λ r. a ≡ packed r) Unit (a ≡ 0)
c_check_refuses bytes k = record { refuses = λ r e. (k ∙ ap (λ g. check_number (check_read g)) e, tt); otherwise = λ h. k ∙ check_zero (record_read bytes) h }

pub c_plan_refuses : (bytes l s w d : List ℕ) {a : ℕ} {l' s' w' d' : List ℕ} → PlanLeaves bytes l s w d a l' s' w' d'
    → RefusesInNumber (Unplanned bytes (lent_of l s w)) (λ r. a ≡ packed r) ((l' ≡ l) × (s' ≡ s) × (w' ≡ w) × (d' ≡ d)) (a ≡ 0)
c_plan_refuses bytes l s w d {l' = l'} {s' = s'} {w' = w'} k =
    let p : Plans bytes l s w (plan_of (record_read bytes) (lent_of l s w)) l' s' w' = record { answer = refl; lightest = k.lightest; shortest = k.shortest; between = k.between } in
    record {
      refuses = λ r u. (
          let z = refused_plan bytes l s w p r u in let v = plan_number_law (plan_of (record_read bytes) (lent_of l s w)) r z.0 in
          (k.number ∙ v.0, (z.1, z.2, z.3, k.summary ∙ ap (λ t. front t d) v.1 ∙ front_none d))
          );
      otherwise = λ h. k.number ∙ plan_zero (plan_of (record_read bytes) (lent_of l s w)) (λ r e. h r (plan_held bytes l s w (record_read bytes) refl e));
    }

pub c_rewrite_refuses : (bytes room : List ℕ) {a : ℕ} {x : List ℕ} → RewriteLeaves bytes room a x
    → RefusesInNumber (Unwritten bytes (length room)) (λ r. a ≡ marked r) (x ≡ room) ((n : Net) (next : ℕ) → record_read bytes ≡ got n next → a ≡ length (net_written n))
unfolding write_answer_of
c_rewrite_refuses bytes room {x = x} k =
    let p : Rewrites bytes room (rewrite_of (record_read bytes) (length room)) x = record { answers = refl; leaves = k.room_after } in
    record {
      refuses = λ r u. (let z = refused_rewrite bytes room p r u in (k.number ∙ write_number_law (rewrite_of (record_read bytes) (length room)) r z.0, z.1));
      otherwise = λ h n next i. (
          k.number ∙ ap (λ g. the_write_number (rewrite_of g (length room))) i ∙ write_size (write_refusal n (length n.segments) most_posts (length room)) (length (net_written n)) (λ r e. h r (by_net n next i e))
          );
    }

pub c_move_refuses : (f : Form) (bytes room : List ℕ) {a : ℕ} {x : List ℕ} → MoveLeaves f bytes room a x
    → RefusesInNumber (Unmoved f bytes (length room)) (λ r. a ≡ marked r) (x ≡ room) ((n : Net) (next : ℕ) → record_read bytes ≡ got n next → a ≡ length (net_written (in_form f n)))
c_move_refuses f bytes room {x = x} k =
    let p : Moves f bytes room (move_of f (record_read bytes) (length room)) x = record { answers = refl; leaves = k.room_after } in
    record {
      refuses = λ r u. (let z = refused_move f bytes room p r u in (k.number ∙ write_number_law (move_of f (record_read bytes) (length room)) r z.0, z.1));
      otherwise = λ h n next i. (
          k.number ∙ ap (λ g. the_write_number (move_of f g (length room))) i ∙ write_size (move_refusal f n (length room)) (length (net_written (in_form f n))) (λ r e. h r (by_net n next i e))
          );
    }

pub c_margin_refuses : (bytes : List ℕ) (tree post : ℕ) (d : List ℤ) {a : ℕ} {d' : List ℤ} → MarginLeaves bytes tree post d a d'
    → RefusesInNumber (Unmeasured bytes post) (λ r. a ≡ packed r) (d' ≡ d) (a ≡ 0)
c_margin_refuses bytes tree post d k =
    record {
      refuses = λ r u. (
          let v = margin_number_law (margin_read bytes (the_tree_named tree) post) r (refused_record_margin bytes (the_tree_named tree) post refl r u) in
          (k.number ∙ v.0, k.list ∙ ap (λ t. front t d) v.1 ∙ front_none d)
          );
      otherwise = λ h. k.number ∙ margin_zero (margin_read bytes (the_tree_named tree) post) (λ r e. h r (record_margin_held bytes (the_tree_named tree) post (record_read bytes) refl e));
    }

pub c_drawn_refuses : (run : Run) {a : ℕ} → a ≡ drawn_number (drawn_of run)
    → RefusesInNumber (λ r. Answers run (undrawn r.number r.place)) (λ r. a ≡ marked r) Unit ((k : ℕ) → Answers run (sixteenths k) → a ≡ k)
c_drawn_refuses run e =
    record { refuses = λ r u. (e ∙ drawn_number_law (drawn_of run) r (drawn_only u), tt); otherwise = λ h k u. e ∙ drawn_length (drawn_of run) k (drawn_only u) }

-- EVERY ENTRY
pub demand_1 : Demand1
demand_1 =
    record {
      build_rules = λ n m k lent.
          record {
            by_the_rules = build_answers every m n k lent;
            no_other = λ r. build_only every m n k lent;
            nine = nine_exactly every m n k lent;
            not_joined = not_joined_exactly every m n k lent;
          };
      margin_rules = λ n m k post. record { by_the_rules = margin_answers every m n k post; no_other = λ r. margin_only every m n k post };
      read_rules = λ bytes room ratioRoom. record { by_the_rules = λ all. read_answers bytes all room ratioRoom; no_other = λ g. read_only bytes };
      write_rules = λ n m k room. record { by_the_rules = write_answers m n k room; no_other = λ r. write_only m n k room };
      move_rules = λ f bytes room. record { by_the_rules = move_answers f bytes room; no_other = λ r. move_only f bytes room };
      build = λ w κs x g r e. fact_mono w.𝓤 _ _ (build_refuses _ _ _ _ _ _);
      margin = λ w κs x g r e. fact_mono w.𝓤 _ _ (margin_refuses _ _ _ _ _);
      read = λ w κs x g r e. fact_mono w.𝓤 _ _ (read_refuses _ _ _ _);
      write = λ w κs x g r e. fact_mono w.𝓤 _ _ (write_refuses _ _ _ _);
      build_lists = λ w κs x g r e. fact_mono w.𝓤 _ _ (build_refuses _ _ _ _ _ _);
      margin_lists = λ w κs x g r e. fact_mono w.𝓤 _ _ (margin_refuses _ _ _ _ _);
      read_lists = λ w κs x g r e. fact_mono w.𝓤 _ _ read_lists_refuses;
      write_lists = λ w κs x g r e. fact_mono w.𝓤 _ _ (write_refuses _ _ _ _);
      check_record = λ w κs x g r e. fact_mono w.𝓤 _ _ (check_refuses _);
      plan = λ w κs x g r e. fact_mono w.𝓤 _ _ (plan_refuses _ _ _ _);
      rewrite = λ w κs x g r e. fact_mono w.𝓤 _ _ (rewrite_refuses _ _);
      record_margin = λ w κs x g r e. fact_mono w.𝓤 _ _ (record_margin_refuses _ _ _);
      record_check = λ w κs x g r e. fact_mono w.𝓤 _ _ (check_refuses _);
      to_second = λ w κs x g r e. fact_mono w.𝓤 _ _ (move_refuses _ _ _);
      to_first = λ w κs x g r e. fact_mono w.𝓤 _ _ (move_refuses _ _ _);
      back_exactly = λ w κs x g r e. fact_mono w.𝓤 _ _ (back_exactly _ _);
      hand_on = λ w κs x g r e. fact_mono w.𝓤 _ _ (λ p. hand_refuses _ _ _ p.hands);
      c_check = λ w κs x g r e. fact_mono w.𝓤 _ _ (c_check_refuses _);
      c_plan = λ w κs x g r e. fact_mono w.𝓤 _ _ (c_plan_refuses _ _ _ _ _);
      c_rewrite = λ w κs x g r e. fact_mono w.𝓤 _ _ (c_rewrite_refuses _ _);
      c_to_second = λ w κs x g r e. fact_mono w.𝓤 _ _ (c_move_refuses _ _ _);
      c_to_first = λ w κs x g r e. fact_mono w.𝓤 _ _ (c_move_refuses _ _ _);
      c_margin = λ w κs x g r e. fact_mono w.𝓤 _ _ (c_margin_refuses _ _ _ _);
      c_drawn = λ w κs x g r e. fact_mono w.𝓤 _ _ (c_drawn_refuses _);
      packed_apart = packed_same;
      marked_apart = marked_same;
      no_length = no_length_marked;
      drawn = λ w κs x g r e. fact_mono w.𝓤 _ _ (outcome_answers x.0 r);
      drawn_no_other = λ w κs x g r e. fact_mono w.𝓤 _ _ (λ k s. outcome_only x.0 r s k);
      no_sixteen = λ w κs x g r e. fact_mono w.𝓤 _ _ (λ k place h. (drawn_refused_with x.0 (ap drawn_says (sym k) ∙ h)).2 refl);
    }
