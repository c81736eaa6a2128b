-- The entries put one after the other (`Entries`, the invariant of the loop over the posts), and an entry put or left out.
use mathlib.Core.Path.{◌≡◌, refl}
use mathlib.Core.List.{List, [], ◌++◌}
use Prim.Native.Nat.{ℕ, suc, ◌+◌, ◌≤◌, ◌<◌}
use native.Mathlib.Numerals.{add-one}
use native.Mathlib.Omega.{arith}
use lib.ListN.{length, length-append, get_or}
use borrow.Author.Tests.{eq-eqb, ne_eqb}
use Rattle.lines.specs.Text.{spaced, entry_text, entries_text}
use Rattle.lines.specs.Putting.{Wrote, HasRoom}
use Rattle.lines.specs.declared.Text.{Text}
use Rattle.lines.proofs.Placing.{wrote_none, wrote_then}
use Rattle.lines.proofs.Lengths.{entries_grow}

-- ONE ENTRY: nothing for the source
pub source_text : (source v e : ℕ) → v ≡ source → entry_text source v e ≡ []
unfolding entry_text
source_text source v e k = rw (eq-eqb v source k)

pub other_text : (source v e : ℕ) → (v ≡ source → ⊥) → entry_text source v e ≡ spaced e
unfolding entry_text
other_text source v e k = rw (ne_eqb v source k)

pub put_source : (source v e : ℕ) (a : Text) → v ≡ source → a.at ≤ length a.room.now → Wrote (entry_text source v e) a a
put_source source v e a k h = rw (source_text source v e k) (wrote_none a h)

pub other_length : (source v e : ℕ) {w : ℕ} → (v ≡ source → ⊥) → w ≡ e → length (entry_text source v e) ≡ length (spaced w)
other_length source v e k i = rw (other_text source v e k, ← i)

pub put_other : (source v e : ℕ) {w : ℕ} {a b : Text} → (v ≡ source → ⊥) → w ≡ e → Wrote (spaced w) a b → Wrote (entry_text source v e) a b
put_other source v e k i p = rw (other_text source v e k, ← i) p

-- ALL OF THEM. the entries of the posts below v stand
pub record Entries (source : ℕ) (es : List ℕ) (n v : ℕ) (a b : Text) : Type 0 where
  pub within : v ≤ n
  pub done : Wrote (entries_text source es v) a b

pub entries_none : (source : ℕ) (es : List ℕ) (n : ℕ) (a : Text) → a.at ≤ length a.room.now → Entries source es n 0 a a
unfolding entries_text
entries_none source es n a h = record { within = omega arith; done = wrote_none a h }

one_more : (source : ℕ) (es : List ℕ) (v : ℕ) → entries_text source es (suc v) ≡ entries_text source es v ++ entry_text source v (get_or es v 0)
unfolding entries_text
one_more source es v = refl

module _ {source n v : ℕ} {es : List ℕ} {a b : Text} (p : Entries source es n v a b) where
  -- the next entry fits
  pub entries_room : v < n → HasRoom (entries_text source es n) a → HasRoom (entry_text source v (get_or es v 0)) b
  entries_room h room =
      let e : length (entries_text source es (suc v)) ≡ length (entries_text source es v) + length (entry_text source v (get_or es v 0)) =
      rw one_more (length-append (entries_text source es v) (entry_text source v (get_or es v 0)))
      in
      omega (arith, entries_grow source es (suc v) n h, p.done.put.behind, p.done.put.same)

  pub entries_more : {d : Text} → v < n → Wrote (entry_text source v (get_or es v 0)) b d → Entries source es n (v + 1) a d
  entries_more h q = record { within = omega arith; done = rw (add-one, one_more) (wrote_then p.done q) }

  pub entries_all : n ≤ v → Wrote (entries_text source es n) a b
  entries_all h = let e : n ≡ v = omega (arith, p.within) in rw e p.done
