-- What the contract of `write` and `write_sound` comes to: two outcomes that it allows are equal; what the answer says in document 01's words; what was written where the
-- answer is `Ok`, and that a sound net is written where enough ratios are lent and the room is long enough. Relies on RuledWriting.
use Prim.Native.Nat.{ℕ, ◌≤◌}
use mathlib.Core.Path.{◌≡◌, refl, sym, ◌∙◌}
use mathlib.Core.List.{List}
use mathlib.Core.Option.{Option, none, some}
use native.Mathlib.Omega.{arith}
use lib.ListN.{length}
use Rattle.net.specs.Net.{Net, every}
use Rattle.net.specs.Rules.{NetSound}
use Rattle.net.specs.declared.Refusal.{Refusal}
use Rattle.numbers.specs.Putting.{onto}
use Rattle.writing.specs.Writing.{net_written, write_refusal, after_writing, the_room_after}
use Rattle.writing.specs.Rules.{WriteRule}
use Rattle.writing.specs.Rules as R
use Rattle.writing.specs.Answers.{write_answer_by, write_answer_of, said_size, says_written, Writes}
use Rattle.std.specs.Prelude.{Result, Ok}
use Rattle.writing.proofs.RuledWriting.{write_answers, write_only}

-- TWO OUTCOMES ARE EQUAL
pub write_unique : (n : Net) (m k : ℕ) (room : List ℕ) (r r' : Result ℕ Refusal) (x x' : List ℕ) → Writes n m k room r x → Writes n m k room r' x' → (r ≡ r') × (x ≡ x')
write_unique n m k room r r' x x' w v = (w.answers ∙ sym v.answers, w.leaves ∙ sym v.leaves)

-- WHAT THE ANSWER SAYS: the definition's result or refusal
by_refusal : (o : Option Refusal) (size : ℕ) → says_written (write_answer_by o size) ≡ said_size o size
by_refusal none size = refl
by_refusal (some r) size = refl

pub says_written_law : (n : Net) (m k room : ℕ) → says_written (write_answer_of n m k room) ≡ said_size (write_refusal n m k room) (length (net_written n))
unfolding write_answer_of
says_written_law n m k room = by_refusal (write_refusal n m k room) (length (net_written n))

-- WHAT WAS WRITTEN
-- a net that was written is sound, as many ratios were lent as it has posts, its record stands at the front of the room, and behind it what stood there
pub record WasWritten (n : Net) (m k : ℕ) (room : List ℕ) (size : ℕ) (x : List ℕ) : Type 0 where
  pub sound : NetSound every m n
  pub enough : n.head.posts ≤ k
  pub size_is : size ≡ length (net_written n)
  pub room_long : length (net_written n) ≤ length room
  pub room_is : x ≡ onto (net_written n) room

-- a sound net is written where as many ratios are lent as it has posts, and the room is long enough
pub sound_writes : (n : Net) (m k : ℕ) (room : List ℕ) → NetSound every m n → n.head.posts ≤ k → length (net_written n) ≤ length room
    → (write_answer_of n m k (length room) ≡ Ok (length (net_written n))) × (the_room_after n m k room ≡ onto (net_written n) room)
unfolding write_answer_of the_room_after
sound_writes n m k room s h l = let e : write_refusal n m k (length room) ≡ none = sym (write_only m n k (length room) (R.WriteRule.nothing s h l)) in (rw e, rw e)

pub was_written : (n : Net) (m k : ℕ) (room : List ℕ) (r : Result ℕ Refusal) (x : List ℕ) (size : ℕ) → Writes n m k room r x → r ≡ Ok size → WasWritten n m k room size x
unfolding write_answer_of the_room_after
was_written n m k room r x size w f = go (write_refusal n m k (length room)) (write_answers m n k (length room)) w.answers w.leaves
  where
    go : (o : Option Refusal) → WriteRule m n k (length room) o → r ≡ write_answer_by o (length (net_written n)) → x ≡ after_writing o n room → WasWritten n m k room size x
    go none (R.WriteRule.nothing s h l) a b = record { sound = s; enough = h; size_is = cc; room_long = l; room_is = b }
    go (some q) y a b = let z : ◌≡◌ {A = ℕ} 0 1 = cc in absurd (omega arith)
