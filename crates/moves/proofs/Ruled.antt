-- Moves by the rules of specs/Rules: every record has an answer by them (`move_answers`), it has no other, and `Moves` computes it (`move_only`, `move_once`). Relies on reading's Ruled, on net's
-- tables and on Tests.
use mathlib.Core.Path.{◌≡◌, sym, subst, ap, ◌∙◌}
use mathlib.Core.Bool.{false}
use mathlib.Core.List.{List, [], ◌∷◌, ◌++◌}
use mathlib.Core.Option.{Option, none, some}
use Prim.Native.Nat.{ℕ}
use lib.ListN.{length}
use borrow.Author.Tests.{ltb-true, ltb-false, lt-ltb, le-ltb}
use Rattle.net.specs.Net.{house, Net, ratio_at, most_posts, most_segments}
use Rattle.net.specs.Refusals.{Line, line, refusal}
use Rattle.net.specs.declared.Form.{Form}
use Rattle.net.specs.declared.Refusal.{Refusal}
use Rattle.net.proofs.Tables.{FirstOf, end, here, below, first_of, first_only, only_line, InEither, in_first, in_second, in_either, some_append, none_append, LowestOf, nowhere, lowest_at, lowest_of, none_each, some_each, pass, fail}
use Rattle.numbers.specs.Numbers.{Bytes, Got, got, refused as unread}
use Rattle.reading.specs.Rules.{ReadRule}
use Rattle.reading.proofs.Ruled.{read_only, read_answers}
use Rattle.writing.specs.Writing.{net_written, short_lines}
use Rattle.on_records.specs.Asked.{record_read}
use Rattle.moves.specs.Moves.{in_form, the_other_at, form_lines, other_lines, move_refusal, unmoved_of}
use Rattle.moves.specs.Rules.{AllHouse, LowestAnother, NetRule, thirty, twenty, eighteen, nothing, MoveRule, not_read, was_read}
use Rattle.moves.proofs.Tests.{same_form_law, other_told}

-- 20 BY ITS RULE
module _ (n : Net) where
  abbrev other_line : ℕ → List Line
  other_line v = line 20 (the_other_at n.head n.own v) v ∷ []

  -- a post without another ratio gives nothing
  no_line : (v : ℕ) → the_other_at n.head n.own v ≡ false → FirstOf (other_line v) none
  no_line v e = below e end

  as_house : (v : ℕ) → FirstOf (other_line v) none → (v ≡ n.head.source → ⊥) → ratio_at n.own v ≡ house n.head
  as_house v (below e end) = (other_told n.head n.own v).fails e

  -- it isn't given exactly where every post has the house ratio
  pub no_other : AllHouse n → FirstOf (other_lines n) none
  unfolding other_lines
  no_other all = none_each other_line (length n.own) (λ v l. no_line v (fail (other_told n.head n.own v) (λ ne. all v l ne)))

  pub all_house : FirstOf (other_lines n) none → AllHouse n
  unfolding other_lines
  all_house f = by_lowest (lowest_of other_line (length n.own) f)
    where
      by_lowest : LowestOf other_line (length n.own) none → AllHouse n
      by_lowest (nowhere g) v l = as_house v (g v l)

  -- it is given at the lowest post with another ratio
  pub lowest_other : {v : ℕ} → LowestAnother n v → FirstOf (other_lines n) (some (refusal 20 v))
  unfolding other_lines
  lowest_other {v} l =
      some_each other_line (length n.own) l.is_post (λ j k. no_line j (fail (other_told n.head n.own j) (λ ne. l.lower_house j k ne)))
      (here (pass (other_told n.head n.own v) (l.not_source, l.another)))

-- WHAT REFUSES A NET
module _ (wanted : Form) (n : Net) (room : ℕ) where
  abbrev last_at : List Line
  last_at = short_lines room (length (net_written (in_form wanted n)))

  -- 30, then 20, then 18
  pub by_thirty : n.head.form ≡ wanted → move_refusal wanted n room ≡ some (refusal 30 0)
  unfolding move_refusal form_lines
  by_thirty e = sym (first_only (some_append _ (here {ls = []} (pass (same_form_law n.head.form wanted) e))))

  module _ (ne : n.head.form ≡ wanted → ⊥) where
    not_thirty : FirstOf (form_lines wanted n) none
    unfolding form_lines
    not_thirty = below (fail (same_form_law n.head.form wanted) ne) end

    pub by_twenty : {r : Refusal} → FirstOf (other_lines n) (some r) → move_refusal wanted n room ≡ some r
    unfolding move_refusal
    by_twenty g = sym (first_only (none_append not_thirty (some_append last_at g)))

    pub by_last : {r : Option Refusal} → FirstOf (other_lines n) none → FirstOf last_at r → move_refusal wanted n room ≡ r
    unfolding move_refusal
    by_last g h = sym (first_only (none_append not_thirty (none_append g h)))

  -- THE RULES GIVE NO OTHER ANSWER than what is computed
  pub net_only : {r : Option Refusal} → NetRule wanted n room r → move_refusal wanted n room ≡ r
  unfolding short_lines
  net_only (thirty e) = by_thirty e
  net_only (twenty ne l) = by_twenty ne (lowest_other n l)
  net_only (eighteen ne all l) = by_last ne (no_other n all) (here (lt-ltb _ _ l))
  net_only (nothing ne all l) = by_last ne (no_other n all) (below (le-ltb room (length (net_written (in_form wanted n))) l) end)

  -- AND EVERY NET HAS ONE
  module _ (ne : n.head.form ≡ wanted → ⊥) where
    by_lowest : {r : Refusal} → LowestOf (other_line n) (length n.own) (some r) → NetRule wanted n room (some r)
    by_lowest (lowest_at i l g e) =
        let o = only_line e in
        let z = (other_told n.head n.own i).passes o.0 in
        subst (λ (x : Refusal). NetRule wanted n room (some x)) o.1
        (twenty ne (record { is_post = l; not_source = z.0; another = z.1; lower_house = λ v k. as_house n v (g v k) }))

    at_last : AllHouse n → {r : Option Refusal} → FirstOf last_at r → NetRule wanted n room r
    unfolding short_lines
    at_last all (here e) = eighteen ne all (ltb-true _ _ e)
    at_last all (below e end) = nothing ne all (ltb-false room (length (net_written (in_form wanted n))) e)

    behind_thirty : {r : Option Refusal} → InEither (other_lines n) last_at r → NetRule wanted n room r
    unfolding other_lines
    behind_thirty (in_first g) = by_lowest (lowest_of (other_line n) (length n.own) g)
    behind_thirty (in_second f g) = at_last (all_house n f) g

  by_table : {r : Option Refusal} → InEither (form_lines wanted n) (other_lines n ++ last_at) r → NetRule wanted n room r
  unfolding form_lines
  by_table (in_first (here e)) = thirty ((same_form_law n.head.form wanted).passes e)
  by_table (in_first {r = r} (below _ f)) = elim f [ ]
  by_table (in_second (below e end) g) = behind_thirty ((same_form_law n.head.form wanted).fails e) (in_either (other_lines n) last_at g)

  pub net_answers : NetRule wanted n room (move_refusal wanted n room)
  unfolding move_refusal
  net_answers = by_table (in_either (form_lines wanted n) (other_lines n ++ last_at) (first_of (form_lines wanted n ++ (other_lines n ++ last_at))))

-- A RECORD
module _ (wanted : Form) (bytes : List ℕ) (room : ℕ) where
  rule_read : {g : Got Net} → ReadRule bytes most_segments most_posts g → unmoved_of wanted (record_read bytes) room ≡ unmoved_of wanted g room
  unfolding record_read
  rule_read w = ap (λ (g : Got Net). unmoved_of wanted g room) (read_only bytes w)

  pub move_only : {r : Option Refusal} → MoveRule wanted bytes room r → r ≡ unmoved_of wanted (record_read bytes) room
  move_only (not_read w) = sym (rule_read w)
  move_only (was_read {n} w x) = sym (rule_read w ∙ net_only wanted n room x)

  pub move_once : {r s : Option Refusal} → MoveRule wanted bytes room r → MoveRule wanted bytes room s → r ≡ s
  move_once x y = move_only x ∙ sym (move_only y)

  pub move_answers : Bytes bytes → MoveRule wanted bytes room (unmoved_of wanted (record_read bytes) room)
  unfolding record_read
  move_answers all = go (record_read bytes) (read_answers bytes all most_segments most_posts)
    where
      go : (g : Got Net) → ReadRule bytes most_segments most_posts g → MoveRule wanted bytes room (unmoved_of wanted g room)
      go (got n next) w = was_read w (net_answers wanted n room)
      go (unread r) w = not_read w
