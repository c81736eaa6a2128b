-- What the contract of a move comes to: two outcomes that it allows are equal (`move_one`); what the answer says in document 01's words (`move_says`); where the rules refuse, the answer is that
-- refusal and the room is as it was (`refusal_given`), and only there (`only_refused`). And "back is possible exactly if every post's p and q equal the house p and q as numbers" (`no_twenty`, `equal_no_twenty`).
-- Relies on Ruled.
use mathlib.Core.Path.{◌≡◌, refl, sym, ap, ◌∙◌}
use mathlib.Core.List.{List}
use mathlib.Core.Option.{Option, none, some}
use Prim.Native.Nat.{ℕ, ◌<◌}
use native.Mathlib.Omega.{arith}
use lib.ListN.{length}
use Rattle.net.specs.Net.{Ratio, Net}
use Rattle.net.specs.Refusals.{refusal}
use Rattle.net.specs.Building.{p_of, q_of}
use Rattle.net.specs.declared.Form.{Form}
use Rattle.net.specs.declared.Form.TheVariants.{First, Second}
use Rattle.net.specs.declared.Refusal.{Refusal}
use Rattle.net.proofs.Own.{ratio_own}
use Rattle.numbers.specs.Numbers.{Bytes, Got, got, refused as unread}
use Rattle.writing.specs.Writing.{net_written}
use Rattle.writing.specs.Answers.{Said, result, refusal_of, said_size, says_written, write_answer_by}
use Rattle.on_records.specs.Asked.{record_read}
use Rattle.moves.specs.Moves.{in_form, move_refusal, move_of, room_moved, Moves, move_said, unmoved_of}
use Rattle.moves.specs.Rules.{AllHouse, NetRule, thirty, twenty, eighteen, nothing, MoveRule}
use Rattle.moves.proofs.Ruled.{net_answers, move_only, move_answers}
use Rattle.moves.proofs.There.{read_sound}
use Rattle.std.specs.Prelude.{Result, Err}

-- TWO OUTCOMES ARE EQUAL
pub move_one : (f : Form) (bytes room : List ℕ) {r r₂ : Result ℕ Refusal} {x x₂ : List ℕ} → Moves f bytes room r x → Moves f bytes room r₂ x₂ → (r ≡ r₂) × (x ≡ x₂)
move_one f bytes room p q = (p.answers ∙ sym q.answers, p.leaves ∙ sym q.leaves)

-- WHAT THE ANSWER SAYS
by_refusal : (o : Option Refusal) (size : ℕ) → says_written (write_answer_by o size) ≡ said_size o size
by_refusal none size = refl
by_refusal (some r) size = refl

says_move : (f : Form) (g : Got Net) (room : ℕ) → says_written (move_of f g room) ≡ move_said f g room
says_move f (got n next) room = by_refusal (move_refusal f n room) _
says_move f (unread r) room = refl

pub move_says : (f : Form) (bytes room : List ℕ) {r : Result ℕ Refusal} {x : List ℕ} → Moves f bytes room r x → says_written r ≡ move_said f (record_read bytes) (length room)
move_says f bytes room p = ap says_written p.answers ∙ says_move f (record_read bytes) (length room)

-- WHERE THE RULES REFUSE
by_answer : (o : Option Refusal) (size : ℕ) {q : Refusal} → write_answer_by o size ≡ Err q → o ≡ some q
by_answer none size e = let z : ◌≡◌ {A = ℕ} 0 1 = cc in absurd (omega arith)
by_answer (some s) size e = cc

pub refused_by : (f : Form) (g : Got Net) (room : ℕ) {q : Refusal} → move_of f g room ≡ Err q → unmoved_of f g room ≡ some q
refused_by f (got n next) room e = by_answer (move_refusal f n room) _ e
refused_by f (unread s) room e = cc

module _ (f : Form) (bytes room : List ℕ) {r : Result ℕ Refusal} {x : List ℕ} (w : Moves f bytes room r x) {q : Refusal} where
  pub refusal_given : MoveRule f bytes (length room) (some q) → (r ≡ Err q) × (x ≡ room)
  refusal_given rule = go (record_read bytes) (sym (move_only f bytes (length room) rule)) w.answers w.leaves
    where
      go : (g : Got Net) → unmoved_of f g (length room) ≡ some q → r ≡ move_of f g (length room) → x ≡ room_moved f g room → (r ≡ Err q) × (x ≡ room)
      go (got n next) e y z = (rw e at y, rw e at z)
      go (unread s) e y z = let k : s ≡ q = cc in (rw k at y, z)

  pub only_refused : Bytes bytes → r ≡ Err q → MoveRule f bytes (length room) (some q)
  only_refused all e = rw (refused_by f (record_read bytes) (length room) (sym w.answers ∙ e)) at (move_answers f bytes (length room) all)

-- the number of a refusal, and 0 of a length
abbrev number_said : Said ℕ → ℕ
number_said (result size) = 0
number_said (refusal_of r) = r.number

-- BACK IS POSSIBLE exactly if every post's p and q equal the house p and q: then, and only then, no 20 is given
module _ (bytes : List ℕ) {n : Net} {next : ℕ} (e : record_read bytes ≡ got n next) (second : n.head.form ≡ Second) where
  -- as numbers
  abbrev pub Equal : Type 0
  Equal = (v : ℕ) → v < n.head.posts → (v ≡ n.head.source → ⊥) → (p_of n v ≡ n.head.p) × (q_of n v ≡ n.head.q)

  own_long : length n.own ≡ n.head.posts
  own_long = (read_sound bytes e).kept.second_all second

  all_equal : AllHouse n → Equal
  all_equal all v h ne = let z = ratio_own n second v ne ∙ all v (omega (arith, own_long)) ne in (ap (λ (r : Ratio). r.p) z, ap (λ (r : Ratio). r.q) z)

  equal_all : Equal → AllHouse n
  equal_all same v h ne =
      let z = same v (omega (arith, own_long)) ne in
      let x = z.0 in
      let y = z.1 in
      sym (ratio_own n second v ne) ∙ (λ i. record { p = x i; q = y i })

  not_first : n.head.form ≡ First → ⊥
  not_first f = let c : ◌≡◌ {A = Form} First Second = sym f ∙ second in let z : ◌≡◌ {A = ℕ} 0 1 = cc in omega arith

  module _ (room : List ℕ) {a : Result ℕ Refusal} {x : List ℕ} (w : Moves First bytes room a x) where
    pub no_twenty : ((v : ℕ) → says_written a ≡ refusal_of (refusal 20 v) → ⊥) → Equal
    no_twenty none-given = go (move_refusal First n (length room)) (net_answers First n (length room)) (rw e at w.answers)
      where
        go : (o : Option Refusal) → NetRule First n (length room) o → a ≡ write_answer_by o (length (net_written (in_form First n))) → Equal
        go (some r) (thirty f) y = absurd (not_first f)
        go (some r) (twenty {v} ne l) y = absurd (none-given v (ap says_written y))
        go (some r) (eighteen ne all l) y = all_equal all
        go none (nothing ne all l) y = all_equal all

    pub equal_no_twenty : Equal → (v : ℕ) → says_written a ≡ refusal_of (refusal 20 v) → ⊥
    equal_no_twenty same v said = go (move_refusal First n (length room)) (net_answers First n (length room)) (rw e at w.answers)
      where
        all : AllHouse n
        all = equal_all same

        go : (o : Option Refusal) → NetRule First n (length room) o → a ≡ write_answer_by o (length (net_written (in_form First n))) → ⊥
        go (some r) (thirty f) y = not_first f
        go (some r) (twenty {v} ne l) y = l.another (all v l.is_post l.not_source)
        go (some r) (eighteen ne all l) y = let z : ◌≡◌ {A = ℕ} 18 20 = ap number_said (sym (ap says_written y) ∙ said) in omega arith
        go none (nothing ne all l) y = let z : ◌≡◌ {A = ℕ} 0 20 = ap number_said (sym (ap says_written y) ∙ said) in omega arith
