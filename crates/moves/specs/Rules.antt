-- A move of a record as rules, one constructor for each way out, without tests and without an order of work: each says
-- that nothing before it holds. proofs/Ruled proves that every record has an answer by these rules, that it has no
-- other, and that `Moves` computes it. A record's own rules are those of `reading`.
use Rattle.std.specs.Prelude.{ℕ, ◌<◌, ◌≤◌, ◌≡◌, List, length}
use Rattle.std.proofs.Math.Option.{Option, none, some}
use Rattle.net.specs.Net.{house, Net, ratio_at, most_posts, most_segments}
use Rattle.net.specs.Refusals.{refusal}
use Rattle.net.specs.declared.Form.{Form}
use Rattle.net.specs.declared.Refusal.{Refusal}
use Rattle.numbers.specs.Numbers.{got, refused as unread}
use Rattle.reading.specs.Rules.{ReadRule}
use Rattle.writing.specs.Writing.{net_written}
use Rattle.moves.specs.Moves.{in_form}

-- every post below k but the source has the house p and q as its own, "as numbers"
abbrev pub HouseBelow : Net → ℕ → Type 0
HouseBelow n k = (v : ℕ) → v < k → (v ≡ n.head.source → ⊥) → ratio_at n.own v ≡ house n.head

-- every post that has an own ratio
abbrev pub AllHouse : Net → Type 0
AllHouse n = HouseBelow n (length n.own)

-- "the lowest post with another ratio"
pub record LowestAnother (n : Net) (v : ℕ) : Type 0 where
  pub is_post : v < length n.own
  pub not_source : v ≡ n.head.source → ⊥
  pub another : ratio_at n.own v ≡ house n.head → ⊥
  pub lower_house : HouseBelow n v

-- A NET, moved to the form that is wanted into a room of so many bytes: 30, then 20, then 18. A net of the first form
-- has no own ratio, so 20 is given only on the way back
pub data NetRule (wanted : Form) (n : Net) (room : ℕ) : Option Refusal → Type 0 where
  thirty : n.head.form ≡ wanted → NetRule wanted n room (some (refusal 30 0))
  twenty : {v : ℕ} → (n.head.form ≡ wanted → ⊥) → LowestAnother n v → NetRule wanted n room (some (refusal 20 v))
  eighteen : (n.head.form ≡ wanted → ⊥) → AllHouse n → room < length (net_written (in_form wanted n))
      → NetRule wanted n room (some (refusal 18 0))
  nothing : (n.head.form ≡ wanted → ⊥) → AllHouse n → length (net_written (in_form wanted n)) ≤ room
      → NetRule wanted n room none

-- A RECORD: "all of the reader's first"
pub data MoveRule (wanted : Form) (bytes : List ℕ) (room : ℕ) : Option Refusal → Type 0 where
  not_read : {r : Refusal} → ReadRule bytes most_segments most_posts (unread r) → MoveRule wanted bytes room (some r)
  was_read : {n : Net} {next : ℕ} {r : Option Refusal} → ReadRule bytes most_segments most_posts (got n next)
      → NetRule wanted n room r → MoveRule wanted bytes room r
