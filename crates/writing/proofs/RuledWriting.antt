-- Every net has an answer of writing by the rules of specs/Rules, it has no other, and the table of `Writing` gives it: `write_answers`, `write_only`.
-- Rests on net's laws of 1 to 7 and on reading a table from the top.
use Prim.Native.Nat.{ℕ, ◌≤◌}
use mathlib.Core.Path.{◌≡◌, sym}
use mathlib.Core.List.{List, [], ◌++◌}
use mathlib.Core.Option.{Option, none, some}
use lib.ListN.{length}
use borrow.Author.Tests.{ltb-true, ltb-false, lt-ltb, le-ltb}
use Rattle.net.specs.Net.{Net, every}
use Rattle.net.specs.Refusals.{Line, net_lines, room_of_ratios}
use Rattle.net.specs.Rules.{NetSound}
use Rattle.net.proofs.Tables.{FirstOf, end, here, below, first_of, first_only, InEither, in_first, in_second, in_either, some_append, none_append}
use Rattle.net.proofs.Faults.{faulty_first, sound_first, net_faulty, net_sound}
use Rattle.net.specs.declared.Refusal.{Refusal}
use Rattle.writing.specs.Writing.{net_written, short_lines, write_lines, write_refusal}
use Rattle.writing.specs.Rules.{WriteRule}
use Rattle.writing.specs.Rules as R

module _ (m : ℕ) (n : Net) (k room : ℕ) where
  abbrev room_at : List Line
  room_at = room_of_ratios n.head.posts k

  abbrev last_at : List Line
  last_at = short_lines room (length (net_written n))

  pub few_ratios : {r : Refusal} → FirstOf room_at (some r) → NetSound every m n → WriteRule m n k room (some r)
  unfolding room_of_ratios
  few_ratios (here p) z = R.WriteRule.eight z (ltb-true _ _ p)
  few_ratios {r = r} (below _ x) z = elim x [ ]

  enough : FirstOf room_at none → n.head.posts ≤ k
  unfolding room_of_ratios
  enough (below p end) = ltb-false k n.head.posts p

  last : NetSound every m n → n.head.posts ≤ k → {r : Option Refusal} → FirstOf last_at r → WriteRule m n k room r
  unfolding short_lines
  last z h (here p) = R.WriteRule.eighteen z h (ltb-true _ _ p)
  last z h (below p end) = R.WriteRule.nothing z h (ltb-false room (length (net_written n)) p)

  rest : NetSound every m n → {r : Option Refusal} → InEither room_at last_at r → WriteRule m n k room r
  rest z (in_first g) = few_ratios g z
  rest z (in_second f g) = last z (enough f) g

  rule : {r : Option Refusal} → InEither (net_lines every m n) (write_lines n k room) r → WriteRule m n k room r
  rule (in_first g) = R.WriteRule.one_to_seven ((net_faulty every m n).0 (sym (first_only g)))
  rule (in_second f g) = rest ((net_sound every m n).0 (sym (first_only f))) (in_either room_at last_at g)

  -- EVERY NET HAS AN ANSWER BY THE RULES
  pub write_answers : WriteRule m n k room (write_refusal n m k room)
  unfolding write_refusal
  write_answers = rule (in_either (net_lines every m n) (write_lines n k room) (first_of (net_lines every m n ++ write_lines n k room)))

  no_eight : n.head.posts ≤ k → FirstOf room_at none
  unfolding room_of_ratios
  no_eight h = below (le-ltb k n.head.posts h) end

  -- AND NO OTHER
  pub write_only : {r : Option Refusal} → WriteRule m n k room r → r ≡ write_refusal n m k room
  unfolding write_refusal short_lines room_of_ratios
  write_only (R.WriteRule.one_to_seven f) = first_only (some_append (write_lines n k room) (faulty_first every m n f))
  write_only (R.WriteRule.eight z l) = first_only (none_append (sound_first every m n z) (some_append last_at (here {ls = []} (lt-ltb _ _ l))))
  write_only (R.WriteRule.eighteen z h l) = first_only (none_append (sound_first every m n z) (none_append (no_eight h) (here (lt-ltb _ _ l))))
  write_only (R.WriteRule.nothing z h l) = first_only (none_append (sound_first every m n z) (none_append (no_eight h) (below (le-ltb room (length (net_written n)) l) end)))
