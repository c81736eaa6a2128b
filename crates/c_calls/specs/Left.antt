-- What the functions for C leave in what is lent to them. A list that is lent for some numbers takes as many of them as
-- it has entries; its entries beyond them, and after a refusal all of them, stay as they were. Relies on `Numbers`, on
-- c_numbers' `Named` and `Lists`, on `Asked` of `on_records` and on `Moves` of `moves`.
use Rattle.std.specs.Prelude.{◌≡◌, List, [], ◌∷◌, ℕ, ℤ, length, Result, Ok, Err}
use Rattle.net.specs.declared.Form.{Form}
use Rattle.net.specs.declared.Plan.{Plan}
use Rattle.net.specs.declared.Refusal.{Refusal}
use Rattle.net.specs.declared.Tree.TheVariants.{Lightest, Shortest, Between}
use Rattle.building.specs.Answers.{lent_of}
use Rattle.on_records.specs.Asked.{record_read, plan_of, tree_list, rewrite_of, room_of, margin_read}
use Rattle.moves.specs.Moves.{move_of, room_moved}
use Rattle.c_numbers.specs.Named.{the_tree_named}
use Rattle.c_numbers.specs.Lists.{front, twelve}
use Rattle.c_calls.specs.Numbers.{plan_number, the_write_number, margin_number}

-- PLAN: the twelve numbers, for the front of a lent summary; none after a refusal
abbrev pub summary_of : Result Plan Refusal → List ℕ
summary_of (Ok plan) = twelve plan
summary_of (Err r) = []

-- a lent summary that held d, afterwards: the twelve numbers at its front
abbrev pub summary_after : Result Plan Refusal → List ℕ → List ℕ
summary_after a d = front (summary_of a) d

-- what planning leaves, where the three lists held l, s and w and the summary d: the number r, and what they hold then
pub record PlanLeaves (bytes l s w d : List ℕ) (r : ℕ) (l' s' w' d' : List ℕ) : Type 0 where
  pub number : r ≡ plan_number (plan_of (record_read bytes) (lent_of l s w))
  pub lightest : l' ≡ tree_list (record_read bytes) (lent_of l s w) Lightest l
  pub shortest : s' ≡ tree_list (record_read bytes) (lent_of l s w) Shortest s
  pub between : w' ≡ tree_list (record_read bytes) (lent_of l s w) Between w
  pub summary : d' ≡ summary_after (plan_of (record_read bytes) (lent_of l s w)) d

-- REWRITE: what writing a record again leaves, where the room held `room`: the number r, and what the room holds then
pub record RewriteLeaves (bytes room : List ℕ) (r : ℕ) (room' : List ℕ) : Type 0 where
  pub number : r ≡ the_write_number (rewrite_of (record_read bytes) (length room))
  pub room_after : room' ≡ room_of (record_read bytes) room

-- MOVE: what a move of a record to the form that is wanted leaves, where the room held `room`
pub record MoveLeaves (wanted : Form) (bytes room : List ℕ) (r : ℕ) (room' : List ℕ) : Type 0 where
  pub number : r ≡ the_write_number (move_of wanted (record_read bytes) (length room))
  pub room_after : room' ≡ room_moved wanted (record_read bytes) room

-- MARGIN: the margin, for the front of a lent list; none after a refusal
abbrev pub margins_of : Result ℤ Refusal → List ℤ
margins_of (Ok z) = z ∷ []
margins_of (Err r) = []

-- what the margin leaves, where the list held d: the number r, and what the list holds then
pub record MarginLeaves (bytes : List ℕ) (tree post : ℕ) (d : List ℤ) (r : ℕ) (d' : List ℤ) : Type 0 where
  pub number : r ≡ margin_number (margin_read bytes (the_tree_named tree) post)
  pub list : d' ≡ front (margins_of (margin_read bytes (the_tree_named tree) post)) d
