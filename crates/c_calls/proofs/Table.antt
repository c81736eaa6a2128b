-- THE NUMBERS OF THE REFUSALS that the functions for C give are those that document 01 or a request that has landed gives (`given_numbers`), 16 no longer among them:
-- `check_listed`, `plan_listed`, `rewrite_listed`, `move_listed`, `margin_listed`, `drawn_listed`. So a packed refusal is never 0 (`packed_not_zero`), and a marked one has
-- 64 bits (`markable`). Rests on the rules of every entry; what is read are bytes.
use mathlib.Core.Path.{◌≡◌, refl, ap}
use mathlib.Core.Bool.{Bool, true, ◌&&◌}
use mathlib.Core.Logic.{◌⊎◌, inl, inr}
use mathlib.Core.List.{List, [], ◌∷◌}
use mathlib.Core.Option.{Option, none, some}
use Prim.Native.Nat.{ℕ, zero, suc, ◌<◌, ◌≤◌}
use native.Mathlib.Omega.{arith}
use native.Mathlib.Decide.{dec_lt}
use lib.Dec.{eqb, leb}
use lib.ListN.{length}
use borrow.Author.Tests.{eqb-true, leb-true}
use Rattle.net.proofs.Words.{and_left, and_right, or_cases}
use Rattle.std.specs.Prelude.{Result, Ok, Err}
use Rattle.net.specs.Net.{Net, every, most_posts, most_segments}
use Rattle.net.specs.Refusals.{Lent}
use Rattle.net.specs.Building.{build_refusal, build_answer, build_of, margin_refusal, margin_answer, margin_of}
use Rattle.net.specs.declared.Form.{Form}
use Rattle.net.specs.declared.Head.{Head}
use Rattle.net.specs.declared.Refusal.{Refusal}
use Rattle.net.specs.declared.Tree.{Tree}
use Rattle.margins.specs.Answers.{margin_answer_of}
use Rattle.numbers.specs.Numbers.{Bytes, Got, got, refused}
use Rattle.net.specs.Rules.{BuildRule, MarginRule}
use Rattle.net.proofs.Faults.{head_range, ratio_range, segment_range, faulty_range}
use Rattle.net.proofs.Refusals.{build_answers, margin_answers}
use Rattle.numbers.specs.Rules.{NumberRule}
use Rattle.reading.specs.Rules.{HeadBreaks, at_first, of_five, of_six}
use Rattle.reading.specs.Rules.{ReadRule, head_ten_eleven, one_to_four, eight, post_ten_eleven, three_of_post, segment_ten_eleven, five_to_seven, twelve, good}
use Rattle.writing.specs.Rules.{WriteRule}
use Rattle.writing.specs.Writing.{net_written, write_refusal}
use Rattle.writing.specs.Answers.{write_answer_by, write_answer_of}
use Rattle.reading.proofs.Ruled.{read_answers}
use Rattle.writing.proofs.RuledWriting.{write_answers}
use Rattle.reading.specs.Answers.{check_read}
use Rattle.on_records.specs.Asked.{record_read, planned_with, plan_of, rewrite_of, margin_said, margin_read}
use Rattle.drawn.specs.Drawn.{drawn_of}
use Rattle.drawn.specs.Says.{says_of}
use Rattle.drawn.specs.Rules.{RefusedWith}
use Rattle.drawn.specs.declared.Run.{Run}
use Rattle.drawn.proofs.Rules.{drawn_refused_with}
use Rattle.moves.specs.Moves.{move_of}
use Rattle.moves.specs.Rules.{NetRule, MoveRule}
use Rattle.moves.proofs.Ruled.{move_answers}
use Rattle.moves.proofs.Outcomes.{refused_by}
use Rattle.c_numbers.specs.Named.{most_number, given_numbers, one_of, InTable, packed}
use Rattle.c_calls.specs.Numbers.{Markable}

-- A LIST OF NUMBERS: one of them is no less than the least and no more than the most
abbrev within : ℕ → ℕ → List ℕ → Bool
within low high [] = true
within low high (x ∷ xs) = leb low x && leb x high && within low high xs

one_within : (low high : ℕ) (l : List ℕ) (n : ℕ) → within low high l ≡ true → one_of l n ≡ true → (low ≤ n) × (n ≤ high)
one_within low high [] n w e = let z : ◌≡◌ {A = ℕ} 0 1 = cc in absurd (omega arith)
one_within low high (x ∷ xs) n w e = go (or_cases (eqb n x) (one_of xs n) e) (one_within low high xs n (and_right (leb low x && leb x high) (within low high xs) w))
  where
    go : (eqb n x ≡ true) ⊎ (one_of xs n ≡ true) → (one_of xs n ≡ true → (low ≤ n) × (n ≤ high)) → (low ≤ n) × (n ≤ high)
    go (inl f) on =
        let y = eqb-true n x f in
        let u = and_left (leb low x && leb x high) (within low high xs) w in
        let a = leb-true low x (and_left (leb low x) (leb x high) u) in
        let b = leb-true x high (and_right (leb low x) (leb x high) u) in
        (omega arith, omega arith)
    go (inr f) on = on f

pub listed_range : (n : ℕ) → InTable n → (1 ≤ n) × (n ≤ most_number)
listed_range n e = one_within 1 most_number given_numbers n refl e

-- the first k numbers are among them
abbrev first_in : ℕ → Bool
first_in zero = true
first_in (suc k) = one_of given_numbers (suc k) && first_in k

first_listed : (k : ℕ) → first_in k ≡ true → (n : ℕ) → n < k → InTable (suc n)
first_listed zero e n h = absurd (omega arith)
first_listed (suc k) e n h = elim (dec_lt n k) [
  | yes l ↦ first_listed k (and_right (one_of given_numbers (suc k)) (first_in k) e) n l
  | no l ↦ let z : n ≡ k = omega arith in rw z (and_left (one_of given_numbers (suc k)) (first_in k) e)
]

pub packed_not_zero : (r : Refusal) → InTable r.number → packed r ≡ 0 → ⊥
packed_not_zero r h e = omega (arith, listed_range r.number h)

-- a marked refusal has 64 bits
pub markable : (a : Result ℕ Refusal) → ((r : Refusal) → a ≡ Err r → InTable r.number) → Markable a
markable (Ok size) h = tt
markable (Err r) h = (listed_range r.number (h r refl)).1

-- 1 TO 7
fault_listed : {n : ℕ} → (1 ≤ n) × (n ≤ 7) → InTable n
fault_listed {n} h = go n h
  where
    go : (n : ℕ) → (1 ≤ n) × (n ≤ 7) → InTable n
    go zero h = absurd (omega arith)
    go (suc n) h = first_listed 7 refl n (omega arith)

-- BUILDING, WRITING AND MARGIN, by their rules: a net that claims m segments, with k ratios lent
module _ (n : Net) (m k : ℕ) where
  build_refusal_law : (lent : Lent) {r : Refusal} → build_refusal every n m k lent ≡ some r → InTable r.number
  build_refusal_law lent e = go (rw e at (build_answers every m n k lent))
    where
      go : {q : Refusal} → BuildRule every m n k lent (some q) → InTable q.number
      go (BuildRule.one_to_seven f) = fault_listed (faulty_range every m n f)
      go (BuildRule.eight z l) = refl
      go (BuildRule.nine z l i a) = refl

  write_refusal_law : (room : ℕ) {r : Refusal} → write_refusal n m k room ≡ some r → InTable r.number
  write_refusal_law room e = go (rw e at (write_answers m n k room))
    where
      go : {q : Refusal} → WriteRule m n k room (some q) → InTable q.number
      go (WriteRule.one_to_seven f) = fault_listed (faulty_range every m n f)
      go (WriteRule.eight z l) = refl
      go (WriteRule.eighteen z i l) = refl

  margin_refusal_law : (post : ℕ) {r : Refusal} → margin_refusal every n m k post ≡ some r → InTable r.number
  margin_refusal_law post e = go (rw e at (margin_answers every m n k post))
    where
      go : {q : Refusal} → MarginRule every m n k post (some q) → InTable q.number
      go (MarginRule.one_to_seven f) = fault_listed (faulty_range every m n f)
      go (MarginRule.eight z l) = refl
      go (MarginRule.nine z i a) = refl
      go (MarginRule.nineteen z i a l) = refl

-- READING, by its rules
abbrev ListedGot : {X : Type 0} → Got X → Type 0
ListedGot (got x next) = Unit
ListedGot (refused r) = InTable r.number

module _ (bytes : List ℕ) where
  number_rule : {at : ℕ} {g : Got ℕ} → NumberRule bytes at g → ListedGot g
  number_rule (NumberRule.stands h k) = tt
  number_rule (NumberRule.ten h k l) = refl
  number_rule (NumberRule.eleven_zero h k l m e) = refl
  number_rule (NumberRule.eleven_more h) = refl

  head_breaks : {r : Refusal} → HeadBreaks bytes r → InTable r.number
  head_breaks (at_first s) = number_rule s
  head_breaks (of_five s e b) = number_rule b.refuses
  head_breaks (of_six s b) = number_rule b.refuses

  read_rule : {room ratioRoom : ℕ} {g : Got Net} → ReadRule bytes room ratioRoom g → ListedGot g
  read_rule (head_ten_eleven b) = head_breaks b
  read_rule (one_to_four h r) = fault_listed (head_range r)
  read_rule (eight h r l) = refl
  read_rule (post_ten_eleven h e s l ne b) = number_rule b.refuses
  read_rule (three_of_post h e s l ne w q) = fault_listed (ratio_range q)
  read_rule (segment_ten_eleven h o s l b) = number_rule b.refuses
  read_rule (five_to_seven h o s l w q) = fault_listed (segment_range q)
  read_rule (twelve h o s l) = refl
  read_rule (good h o s l) = tt

  read_listed : Bytes bytes → ListedGot (record_read bytes)
  unfolding record_read
  read_listed all = read_rule (read_answers bytes all most_segments most_posts)

-- THE ANSWERS
module _ (bytes : List ℕ) (all : Bytes bytes) {r : Refusal} where
  pub check_listed : check_read (record_read bytes) ≡ Err r → InTable r.number
  check_listed e = go (record_read bytes) (read_listed bytes all) e
    where
      go : (g : Got Net) → ListedGot g → check_read g ≡ Err r → InTable r.number
      go (got n next) h e = let z : ◌≡◌ {A = ℕ} 0 1 = cc in absurd (omega arith)
      go (refused q) h e = let z : q ≡ r = cc in rw (← z) h

  pub plan_listed : (lent : Lent) → plan_of (record_read bytes) lent ≡ Err r → InTable r.number
  unfolding build_of build_answer
  plan_listed lent e = go (record_read bytes) (read_listed bytes all) e
    where
      by : (n : Net) (h : Head) (m : ℕ) (o : Option Refusal) → planned_with h m (build_answer every n o) ≡ Err r → o ≡ some r
      by n h m none e = let z : ◌≡◌ {A = ℕ} 0 1 = cc in absurd (omega arith)
      by n h m (some q) e = cc

      go : (g : Got Net) → ListedGot g → plan_of g lent ≡ Err r → InTable r.number
      go (got n next) h e = build_refusal_law n (length n.segments) most_posts lent (by n n.head (length n.segments) (build_refusal every n (length n.segments) most_posts lent) e)
      go (refused q) h e = let z : q ≡ r = cc in rw (← z) h

  pub rewrite_listed : (room : ℕ) → rewrite_of (record_read bytes) room ≡ Err r → InTable r.number
  unfolding write_answer_of
  rewrite_listed room e = go (record_read bytes) (read_listed bytes all) e
    where
      by : (o : Option Refusal) (size : ℕ) → write_answer_by o size ≡ Err r → o ≡ some r
      by none size e = let z : ◌≡◌ {A = ℕ} 0 1 = cc in absurd (omega arith)
      by (some q) size e = cc

      go : (g : Got Net) → ListedGot g → rewrite_of g room ≡ Err r → InTable r.number
      go (got n next) h e = write_refusal_law n (length n.segments) most_posts room (by (write_refusal n (length n.segments) most_posts room) (length (net_written n)) e)
      go (refused q) h e = let z : q ≡ r = cc in rw (← z) h

  pub move_listed : (f : Form) (room : ℕ) → move_of f (record_read bytes) room ≡ Err r → InTable r.number
  move_listed f room e = go (rw (refused_by f (record_read bytes) room e) at (move_answers f bytes room all))
    where
      by_net : {n : Net} {q : Refusal} → NetRule f n room (some q) → InTable q.number
      by_net (NetRule.thirty e) = refl
      by_net (NetRule.twenty ne l) = refl
      by_net (NetRule.eighteen ne a l) = refl

      go : {q : Refusal} → MoveRule f bytes room (some q) → InTable q.number
      go (MoveRule.not_read w) = read_rule bytes w
      go (MoveRule.was_read w x) = by_net x

  pub margin_listed : (t : Tree) (post : ℕ) → margin_read bytes t post ≡ Err r → InTable r.number
  unfolding margin_of margin_answer
  margin_listed t post e = go (record_read bytes) (read_listed bytes all) e
    where
      by : (n : Net) (o : Option Refusal) → margin_answer_of (margin_answer every n o t post) ≡ Err r → o ≡ some r
      by n none e = let z : ◌≡◌ {A = ℕ} 0 1 = cc in absurd (omega arith)
      by n (some q) e = cc

      go : (g : Got Net) → ListedGot g → margin_answer_of (margin_said g t post) ≡ Err r → InTable r.number
      go (got n next) h e = margin_refusal_law n (length n.segments) most_posts post (by n (margin_refusal every n (length n.segments) most_posts post) e)
      go (refused q) h e = let z : q ≡ r = cc in rw (← z) h

-- A DRAWN RUN: 13, 14, 15 or 17
refused_listed : {n : ℕ} → RefusedWith n → InTable n
refused_listed {n} = go n
  where
    go : (n : ℕ) → RefusedWith n → InTable n
    go zero h = absurd (omega arith)
    go (suc n) h = elim (dec_lt n 15) [
      | yes l ↦ first_listed 15 refl n l
      | no l ↦ elim (dec_lt 15 n) [
        | yes m ↦ let z : n ≡ 16 = omega arith in rw z
        | no m ↦ absurd (h.2 (omega arith))
      ]
    ]

pub drawn_listed : (run : Run) {r : Refusal} → drawn_of run ≡ Err r → InTable r.number
drawn_listed run e = refused_listed (drawn_refused_with run (ap says_of e))
