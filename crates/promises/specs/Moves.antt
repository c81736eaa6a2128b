-- Moves, of demands 1 and 2: "a move that gives each post the house ratio, and a move back. Forward then back must give
-- the old bytes. Back is possible exactly if every post's p and q equal the house p and q as numbers." Said over
-- `ToSecond` and `ToFirst`, which are the contracts of the moves (specs/Tied); what is moved there and back are bytes,
-- each below 256 (`Bytes`).
use Rattle.std.specs.Prelude.{◌≡◌, ◌↔◌, List, ℕ, ◌≤◌, ◌<◌, length, take}
use Rattle.net.specs.Net.{Net, every}
use Rattle.net.specs.Refusals.{Lent, refusal}
use Rattle.net.specs.Building.{p_of, q_of, tree_of, build_of, margin_of}
use Rattle.net.specs.declared.Form.{Form}
use Rattle.net.specs.declared.Form.TheVariants.{Second}
use Rattle.net.specs.declared.Tree.{Tree}
use Rattle.numbers.specs.Numbers.{Bytes, got}
use Rattle.numbers.specs.Putting.{onto}
use Rattle.writing.specs.Answers.{result, refusal_of, says_written}
use Rattle.on_records.specs.Asked.{record_read}
use Rattle.moves.specs.Moves.{the_head_in, in_form, ToSecond, ToFirst}
use Rattle.net.specs.declared.Refusal.{Refusal}
use Rattle.std.specs.Prelude.{Result}

-- every post but the source has the house p and q, "as numbers"
abbrev pub AllAsHouse : Net → Type 0
AllAsHouse n = (v : ℕ) → v < n.head.posts → (v ≡ n.head.source → ⊥)
    → (p_of n v ≡ n.head.p) × (q_of n v ≡ n.head.q)

-- "Back is possible exactly if ..": of a record of the second form, 20 is not given exactly if they are equal
abbrev pub BackExactly : List ℕ → Result ℕ Refusal → Type 0
BackExactly bytes a = (n : Net) (next : ℕ) → record_read bytes ≡ got n next → n.head.form ≡ Second
    → ((v : ℕ) → says_written a ≡ refusal_of (refusal 20 v) → ⊥) ↔ AllAsHouse n

-- two nets have the same three trees, the same answer of building and the same margins
pub record SameLooms (n m : Net) : Type 0 where
  pub trees : (t : Tree) → tree_of every m t ≡ tree_of every n t
  pub answers : (k : ℕ) (lent : Lent) → build_of every m (length m.segments) k lent
      ≡ build_of every n (length n.segments) k lent
  pub margins : (k : ℕ) (t : Tree) (post : ℕ) → margin_of every m (length m.segments) k t post
      ≡ margin_of every n (length n.segments) k t post

-- A MOVE to the form that is wanted that says a length, where the room held `room` and holds x then
pub record MovedAsStated (wanted : Form) (bytes room : List ℕ) (size : ℕ) (x : List ℕ) : Type 0 where
  -- a net of the other form was read
  pub n : Net
  pub next : ℕ
  pub read_is : record_read bytes ≡ got n next
  pub other_form : n.head.form ≡ wanted → ⊥
  -- the front of the room reads as the same net in the form that was wanted, and behind it the room is as it was
  pub reads : record_read (take size x) ≡ got (in_form wanted n) size
  pub behind : x ≡ onto (take size x) room
  pub head_is : (in_form wanted n).head ≡ the_head_in wanted n.head
  pub segments_are : (in_form wanted n).segments ≡ n.segments
  -- "gives each post the house ratio"
  pub all_as_house : AllAsHouse (in_form wanted n)
  pub same_looms : SameLooms n (in_form wanted n)

-- THERE AND BACK, whatever the two rooms hold
pub record MovesBothWays : Type 0 where
  pub forward_then_back : (bytes room room₂ : List ℕ) {a b : Result ℕ Refusal} {size : ℕ} {x y : List ℕ} → Bytes bytes
      → ToSecond bytes room a x → says_written a ≡ result size
      → ToFirst (take size x) room₂ b y → length bytes ≤ length room₂
      → (says_written b ≡ result (length bytes)) × (y ≡ onto bytes room₂)
  pub back_then_forward : (bytes room room₂ : List ℕ) {a b : Result ℕ Refusal} {size : ℕ} {x y : List ℕ} → Bytes bytes
      → ToFirst bytes room a x → says_written a ≡ result size
      → ToSecond (take size x) room₂ b y → length bytes ≤ length room₂
      → (says_written b ≡ result (length bytes)) × (y ≡ onto bytes room₂)
