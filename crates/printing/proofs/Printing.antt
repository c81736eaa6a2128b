-- What planning a record answers and leaves in lists of 256 entries is what is printed for it.
use mathlib.Core.Path.{◌≡◌, refl, sym, ap, subst, ◌∙◌}
use mathlib.Core.List.{List, ◌++◌}
use mathlib.Core.Option.{Option, none, some}
use Prim.Native.Nat.{ℕ, ◌≤◌}
use native.Mathlib.Nat.{le_refl}
use native.Mathlib.Omega.{arith}
use lib.ListN.{length, drop}
use Rattle.std.specs.Prelude.{Result, Ok, Err}
use Rattle.net.specs.Net.{Net, every, most_posts}
use Rattle.net.specs.Building.{BuildAnswer, built, p_of, q_of, lightest_of, shortest_of, between_of, walk_of, tree_of, build_refusal, build_answer, build_of, list_after, after_build}
use Rattle.net.specs.Building as B
use Rattle.net.specs.declared.Plan.{Plan}
use Rattle.net.specs.declared.Refusal.{Refusal}
use Rattle.net.specs.declared.Tree.TheVariants.{Lightest, Shortest, Between}
use Rattle.net.proofs.Refusals.{accepted}
use Rattle.net.proofs.Sound.{lightest_tree, shortest_tree, between_tree}
use Rattle.building.specs.Answers.{lent_of}
use Rattle.numbers.specs.Numbers.{Got, got, refused}
use Rattle.on_records.specs.Asked.{record_read, planned_with, plan_of, tree_list, Plans}
use Rattle.lines.specs.Text.{refused_line, program_text}
use Rattle.lines.specs.Putting.{Put}
use Rattle.lines.proofs.Meaning.{text_front}
use Rattle.printing.specs.Printed.{lists, lines_for, lines_of, printed, answer_text}

-- a text put into the room is any text that equals it
pub put_same : {t u : List ℕ} {at : ℕ} {l x : List ℕ} {r : ℕ} → Put t at l x r → t ≡ u → Put u at l x r
put_same {t} {u} {at} {l} {x} {r} p e = subst (λ v. Put v at l x r) e p

-- A NET that building takes: the front of the lists is its trees, and what stands behind is not printed
module _ (n : Net) (taken : build_refusal every n (length n.segments) most_posts lists ≡ none) where
  few : length n.segments ≤ length n.segments
  few = le_refl (length n.segments)

  pub few_posts : n.head.posts ≤ most_posts
  few_posts = ((accepted every (length n.segments) n most_posts lists).0 taken).0.head_sound.posts_sound.few_posts

  third_each : length (between_of every n) ≡ n.head.posts
  unfolding between_of walk_of
  third_each =
      let a = (accepted every (length n.segments) n most_posts lists).0 taken in
      (between_tree every (length n.segments) n few a.0 a.3 (p_of n) (q_of n)).one_each

  front_lines : (u v w : List ℕ)
      → program_text n.head (length n.segments) (build_answer every n none) (lightest_of every n ++ u) (shortest_of every n ++ v) (between_of every n ++ w)
      ≡ program_text n.head (length n.segments) (build_answer every n none) (lightest_of every n) (shortest_of every n) (between_of every n)
  front_lines u v w =
      let a = (accepted every (length n.segments) n most_posts lists).0 taken in
      let l = (lightest_tree every (length n.segments) n few a.0 a.3).one_each in
      let s = (shortest_tree every (length n.segments) n few a.0 a.3).one_each in
      let b = third_each in
      text_front n.head (length n.segments) (build_answer every n none) (lightest_of every n) (shortest_of every n) (between_of every n) u v w (omega arith) (omega arith) (omega arith)

-- one plan is answered
same_plan : {p q : Plan} → ◌≡◌ {A = Result Plan Refusal} (Ok p) (Ok q) → p ≡ q
same_plan e = cc

-- A PLAN, where the three lists held l, s and w, of as many entries as a net may have posts
module _ (l s w : List ℕ) (el : length l ≡ most_posts) (es : length s ≡ most_posts) (ew : length w ≡ most_posts) where
  lent_is : lent_of l s w ≡ lists
  lent_is = rw (el, es, ew)

  module _ {plan : Plan} {l' s' w' : List ℕ} where
    -- of a net that was read, which nothing refuses
    of_net : (n : Net) (o : Option Refusal) → build_refusal every n (length n.segments) most_posts lists ≡ o
        → Ok plan ≡ planned_with n.head (length n.segments) (build_answer every n o)
        → l' ≡ list_after every n o Lightest l → s' ≡ list_after every n o Shortest s → w' ≡ list_after every n o Between w
        → (plan.head.posts ≤ most_posts) × (lines_of plan l' s' w' ≡ lines_for (got n 0))
    unfolding build_answer list_after tree_of build_of
    of_net n (some r) e f a b c = absurd (let q : ◌≡◌ {A = ℕ} 0 1 = cc in omega arith)
    of_net n none e f a b c =
        let i : plan.head ≡ n.head = ap (λ (p : Plan). p.head) (same_plan f) in
        let t : lines_of plan l' s' w'
        ≡ program_text n.head (length n.segments) (build_answer every n none) l' s' w' = ap (λ (p : Plan). lines_of p l' s' w') (same_plan f) in
        let u : program_text n.head (length n.segments) (build_answer every n none) l' s' w'
        ≡ program_text n.head (length n.segments) (build_answer every n none) (lightest_of every n ++ drop n.head.posts l) (shortest_of every n ++ drop n.head.posts s)
        (between_of every n ++ drop n.head.posts w) = cc (a, b, c) in (
          rw i (few_posts n e),
          t ∙ u ∙ front_lines n e _ _ _ ∙ ap (λ o. program_text n.head (length n.segments) (build_answer every n o) (lightest_of every n) (shortest_of every n) (between_of every n)) (sym e),
        )

    of_read : (g : Got Net) → Ok plan ≡ plan_of g lists → l' ≡ tree_list g lists Lightest l → s' ≡ tree_list g lists Shortest s → w' ≡ tree_list g lists Between w
        → (plan.head.posts ≤ most_posts) × (lines_of plan l' s' w' ≡ lines_for g)
    unfolding build_of after_build
    of_read (got n next) f a b c = of_net n (build_refusal every n (length n.segments) most_posts lists) refl f a b c
    of_read (refused r) f a b c = absurd (let q : ◌≡◌ {A = ℕ} 0 1 = cc in omega arith)

    -- its lines are what is printed for the record
    pub planned_lines : (bytes : List ℕ) → Plans bytes l s w (Ok plan) l' s' w'
        → (plan.head.posts ≤ most_posts) × (lines_of plan l' s' w' ≡ printed bytes)
    unfolding printed
    planned_lines bytes p =
        of_read (record_read bytes) (p.answer ∙ ap (plan_of (record_read bytes)) lent_is) (p.lightest ∙ ap (λ t. tree_list (record_read bytes) t Lightest l) lent_is)
        (p.shortest ∙ ap (λ t. tree_list (record_read bytes) t Shortest s) lent_is) (p.between ∙ ap (λ t. tree_list (record_read bytes) t Between w) lent_is)

  -- A REFUSAL, of reading or of building
  refused_by : {q : Refusal} (n : Net) (a : BuildAnswer) → Err q ≡ planned_with n.head (length n.segments) a
      → refused_line q.number q.place ≡ program_text n.head (length n.segments) a (lightest_of every n) (shortest_of every n) (between_of every n)
  unfolding program_text
  refused_by n (B.BuildAnswer.built x y z k) f = absurd (let q : ◌≡◌ {A = ℕ} 0 1 = cc in omega arith)
  refused_by n (B.BuildAnswer.refused r) f = cc f

  refused_read : {q : Refusal} (g : Got Net) → Err q ≡ plan_of g lists → refused_line q.number q.place ≡ lines_for g
  refused_read (got n next) f = refused_by n (build_of every n (length n.segments) most_posts lists) f
  refused_read (refused r) f = cc f

  pub refused_lines : (bytes : List ℕ) {l' s' w' : List ℕ} {q : Refusal} → Plans bytes l s w (Err q) l' s' w' → refused_line q.number q.place ≡ printed bytes
  unfolding printed
  refused_lines bytes p = refused_read (record_read bytes) (p.answer ∙ ap (plan_of (record_read bytes)) lent_is)

  -- EITHER ANSWER: its text is what is printed for the record
  pub answer_lines : (bytes : List ℕ) (r : Result Plan Refusal) {l' s' w' : List ℕ} → Plans bytes l s w r l' s' w' → answer_text r l' s' w' ≡ printed bytes
  answer_lines bytes (Ok plan) p = (planned_lines bytes p).1
  answer_lines bytes (Err q) p = refused_lines bytes p
