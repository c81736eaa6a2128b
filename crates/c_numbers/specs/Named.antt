-- A refusal in one number of 64 bits, which is number × 2^32 + place; where the answer may be a length, 2^63 is added
-- to it. Which numbers refusals have. And how a tree and a drawn run are named by numbers. Relies on the enums and
-- structs of `net` and `drawn`.
use Rattle.std.specs.Prelude.{◌≡◌, Bool, true, false, ◌||◌, cond, List, [], ◌∷◌, ℕ, ◌+◌, ◌*◌, ◌^◌, eqb}
use Rattle.std.specs.Float.{binary64}
use Rattle.std.specs.Float.Ieee.{of_bits}
use Rattle.net.specs.declared.Refusal.{Refusal}
use Rattle.net.specs.declared.Tree.{Tree}
use Rattle.net.specs.declared.Tree.TheVariants.{Lightest, Shortest, Between}
use Rattle.drawn.specs.declared.Run.{Run}
use Rattle.drawn.specs.declared.Run.TheVariants.{Straight, Corner}

-- the last number that documents 01 and 02 give to a refusal
abbrev pub most_number : ℕ
most_number = 32

-- the numbers that document 01 or a request that has landed gives; 16 is no longer given
abbrev pub given_numbers : List ℕ
given_numbers = 1 ∷ 2 ∷ 3 ∷ 4 ∷ 5 ∷ 6 ∷ 7 ∷ 8 ∷ 9 ∷ 10 ∷ 11 ∷ 12 ∷ 13 ∷ 14 ∷ 15 ∷ 17 ∷ 18 ∷ 19 ∷ 20 ∷ 30 ∷ []

-- n is one of a list
abbrev pub one_of : List ℕ → ℕ → Bool
one_of [] n = false
one_of (x ∷ xs) n = eqb n x || one_of xs n

-- n is one of these numbers
abbrev pub InTable : ℕ → Type 0
InTable n = one_of given_numbers n ≡ true

-- "a refusal with its number and its place"
abbrev pub packed : Refusal → ℕ
packed r = r.number * 2 ^ 32 + r.place

-- the same where the answer may be a length
abbrev pub marked : Refusal → ℕ
marked r = 2 ^ 63 + packed r

-- 0 names the lightest tree, 1 the shortest, and every other number the one between
abbrev pub the_tree_named : ℕ → Tree
the_tree_named t = cond (eqb t 0) Lightest (cond (eqb t 1) Shortest Between)

-- a run by the bits of its lengths: 0 names a straight run, which has the first alone, and every other number a corner
abbrev pub the_run_named : ℕ → ℕ → ℕ → Run
the_run_named corner first second = cond (eqb corner 0) (Straight (of_bits binary64 first))
    (Corner (of_bits binary64 first) (of_bits binary64 second))
