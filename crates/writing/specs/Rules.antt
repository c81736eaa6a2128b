-- Writing a record as rules, one constructor for each way out, without tests and without an order of work: each says
-- that nothing before it holds. proofs/RuledWriting proves that every net has an answer by these rules, that it has
-- no other, and that `Writing` computes it.
use Rattle.std.specs.Prelude.{ℕ, ◌<◌, ◌≤◌, length}
use Rattle.std.proofs.Math.Option.{Option, none, some}
use Rattle.net.specs.Net.{Net, every}
use Rattle.net.specs.Refusals.{refusal}
use Rattle.net.specs.Rules.{NetSound, Faulty}
use Rattle.net.specs.declared.Refusal.{Refusal}
use Rattle.writing.specs.Writing.{net_written}

-- A NET, written into a lent room: 1 to 7, then 8, then 18. m is the number of segments that is claimed, k the number
-- of ratios that are lent, as far as both their lists go
pub data WriteRule (m : ℕ) (n : Net) (k room : ℕ) : Option Refusal → Type 0 where
  one_to_seven : {r : Refusal} → Faulty every m n r → WriteRule m n k room (some r)
  eight : NetSound every m n → k < n.head.posts → WriteRule m n k room (some (refusal 8 0))
  eighteen : NetSound every m n → n.head.posts ≤ k → room < length (net_written n)
      → WriteRule m n k room (some (refusal 18 0))
  nothing : NetSound every m n → n.head.posts ≤ k → length (net_written n) ≤ room → WriteRule m n k room none
