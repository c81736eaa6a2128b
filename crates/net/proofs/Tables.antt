-- Reading a table of refusals from the top (`FirstOf`): over one table, over two one after the other, over a table for each of 0, 1, .., m − 1.
-- And a test with the rule that it tells (`Tells`). Every law about answers stands on these two.
use mathlib.Core.Path.{◌≡◌, refl}
use mathlib.Core.Bool.{Bool, true, false, ◌||◌, cond}
use mathlib.Core.Logic.{◌⊎◌, inl, inr}
use mathlib.Core.List.{List, [], ◌∷◌, ◌++◌}
use mathlib.Core.Option.{Option, none, some}
use Prim.Native.Nat.{ℕ, zero, suc, ◌≤◌, ◌<◌}
use native.Mathlib.Omega.{arith}
use native.Mathlib.Decide.{dec_lt}
use lib.Dec.{eqb, ltb, leb}
use borrow.Author.Tests.{eqb-true, eqb-false, ltb-true, ltb-false, leb-true, leb-false}
use Rattle.net.specs.Words.{each}
use Rattle.net.specs.Refusals.{Line, first}
use Rattle.net.proofs.Words.{or_cases, neither, true_or_false}
use Rattle.net.specs.declared.Refusal.{Refusal}

-- READING A TABLE FROM THE TOP
-- r is what the first line gives whose test passes, and none where no test passes
pub data FirstOf : List Line → Option Refusal → Type 0 where
  end : FirstOf [] none
  here : {l : Line} {ls : List Line} → l.holds ≡ true → FirstOf (l ∷ ls) (some l.gives)
  below : {l : Line} {ls : List Line} {r : Option Refusal} → l.holds ≡ false → FirstOf ls r → FirstOf (l ∷ ls) r

-- `first` gives it
pub first_of : (ls : List Line) → FirstOf ls (first ls)
unfolding first
first_of [] = end
first_of (l ∷ ls) = go l.holds refl (first_of ls)
  where
    go : (b : Bool) → l.holds ≡ b → FirstOf ls (first ls) → FirstOf (l ∷ ls) (cond b (some l.gives) (first ls))
    go true e f = here e
    go false e f = below e f

-- and it is the only one
pub first_only : {ls : List Line} {r : Option Refusal} → FirstOf ls r → r ≡ first ls
unfolding first
first_only end = refl
first_only (here e) = rw e
first_only (below e f) = rw e (first_only f)

pub first_is : {ls : List Line} {r : Option Refusal} → first ls ≡ r → FirstOf ls r
first_is {ls} e = rw e at (first_of ls)

-- a table of one line gives what that line gives, and the line holds
pub only_line : {l : Line} {r : Refusal} → FirstOf (l ∷ []) (some r) → (l.holds ≡ true) × (l.gives ≡ r)
only_line (here e) = (e, refl)
only_line (below e f) = elim f [ ]

-- of two tables one after the other, the second is read where the first gives nothing
pub data InEither (a b : List Line) : Option Refusal → Type 0 where
  in_first : {r : Refusal} → FirstOf a (some r) → InEither a b (some r)
  in_second : {r : Option Refusal} → FirstOf a none → FirstOf b r → InEither a b r

pub in_either : (a b : List Line) {r : Option Refusal} → FirstOf (a ++ b) r → InEither a b r
in_either [] b f = in_second end f
in_either (l ∷ a) b (here e) = in_first (here e)
in_either (l ∷ a) b (below e f) = go (in_either a b f)
  where
    go : {r : Option Refusal} → InEither a b r → InEither (l ∷ a) b r
    go (in_first g) = in_first (below e g)
    go (in_second g h) = in_second (below e g) h

pub some_append : {a : List Line} (b : List Line) {r : Refusal} → FirstOf a (some r) → FirstOf (a ++ b) (some r)
some_append b (here e) = here e
some_append b (below e f) = below e (some_append b f)

pub none_append : {a b : List Line} {r : Option Refusal} → FirstOf a none → FirstOf b r → FirstOf (a ++ b) r
none_append end g = g
none_append (below e f) g = below e (none_append f g)

-- of the tables f 0, f 1, .., f (m − 1) one after the other, the lowest counts that gives something
pub data LowestOf (f : ℕ → List Line) (m : ℕ) : Option Refusal → Type 0 where
  nowhere : ((i : ℕ) → i < m → FirstOf (f i) none) → LowestOf f m none
  lowest_at : (i : ℕ) {r : Refusal} → i < m → ((j : ℕ) → j < i → FirstOf (f j) none) → FirstOf (f i) (some r) → LowestOf f m (some r)

-- these tables as one
abbrev tables : (ℕ → List Line) → ℕ → List Line
tables f m = each m (λ i ls. ls ++ f i) []

module _ (f : ℕ → List Line) where
  below_more : (m : ℕ) → ((i : ℕ) → i < m → FirstOf (f i) none) → FirstOf (f m) none → (i : ℕ) → i < suc m → FirstOf (f i) none
  below_more m g h i k = elim (dec_lt i m) [ yes p ↦ g i p | no p ↦ let e : i ≡ m = omega arith in rw e h ]

  lowest_wider : (m : ℕ) {r : Refusal} → LowestOf f m (some r) → LowestOf f (suc m) (some r)
  lowest_wider m (lowest_at i k g h) = lowest_at i (omega arith) g h

  lowest_more : (m : ℕ) {r : Option Refusal} → LowestOf f m none → FirstOf (f m) r → LowestOf f (suc m) r
  lowest_more m {r = none} (nowhere g) h = nowhere (below_more m g h)
  lowest_more m {r = some r} (nowhere g) h = lowest_at m (omega arith) g h

  lowest_suc : (m : ℕ) → ((r : Option Refusal) → FirstOf (tables f m) r → LowestOf f m r) → {r : Option Refusal} → InEither (tables f m) (f m) r → LowestOf f (suc m) r
  lowest_suc m g (in_first x) = lowest_wider m (g _ x)
  lowest_suc m g (in_second x h) = lowest_more m (g none x) h

  pub lowest_of : (m : ℕ) {r : Option Refusal} → FirstOf (tables f m) r → LowestOf f m r
  lowest_of zero end = nowhere (λ i k. absurd (omega arith))
  lowest_of (suc m) x = lowest_suc m (λ r. lowest_of m) (in_either (tables f m) (f m) x)

  pub none_each : (m : ℕ) → ((i : ℕ) → i < m → FirstOf (f i) none) → FirstOf (tables f m) none
  none_each zero g = end
  none_each (suc m) g = none_append (none_each m (λ i k. g i (omega arith))) (g m (omega arith))

  pub some_each : (m : ℕ) {i : ℕ} {r : Refusal} → i < m → ((j : ℕ) → j < i → FirstOf (f j) none) → FirstOf (f i) (some r) → FirstOf (tables f m) (some r)
  some_each zero k g h = absurd (omega arith)
  some_each (suc m) {i} k g h = elim (dec_lt i m) [
    | yes p ↦ some_append (f m) (some_each m p g h)
    | no p ↦ let e : i ≡ m = omega arith in none_append (none_each m (λ j q. g j (omega arith))) (rw e at h)
  ]

-- A TEST AND THE RULE THAT IT TELLS: where it passes P holds, where it doesn't Q does, and never both
pub record Tells (P Q : Type 0) (b : Bool) : Type 0 where
  pub passes : b ≡ true → P
  pub fails : b ≡ false → Q
  pub not_both : P → Q → ⊥

module _ {P Q : Type 0} {b : Bool} (t : Tells P Q b) where
  pub pass : P → b ≡ true
  pass p = go (true_or_false b)
    where
      go : (b ≡ true) ⊎ (b ≡ false) → b ≡ true
      go (inl e) = e
      go (inr e) = absurd (t.not_both p (t.fails e))

  pub fail : Q → b ≡ false
  fail q = go (true_or_false b)
    where
      go : (b ≡ true) ⊎ (b ≡ false) → b ≡ false
      go (inl e) = absurd (t.not_both (t.passes e) q)
      go (inr e) = e

-- tests of numbers
pub at_least : (x y : ℕ) → Tells (x ≤ y) (y < x) (leb x y)
at_least x y = record { passes = leb-true x y; fails = leb-false x y; not_both = λ p q. omega arith }

pub above : (x y : ℕ) → Tells (x < y) (y ≤ x) (ltb x y)
above x y = record { passes = ltb-true x y; fails = ltb-false x y; not_both = λ p q. omega arith }

pub same : (x y : ℕ) → Tells (x ≡ y) (x ≡ y → ⊥) (eqb x y)
same x y = record { passes = eqb-true x y; fails = eqb-false x y; not_both = λ p q. q p }

pub is_zero : (x : ℕ) → Tells (x ≡ 0) (1 ≤ x) (eqb x 0)
is_zero x = record { passes = eqb-true x 0; fails = λ e. not_zero x (eqb-false x 0 e); not_both = λ p q. omega arith }
  where
    not_zero : (y : ℕ) → (y ≡ 0 → ⊥) → 1 ≤ y
    not_zero zero f = absurd (f refl)
    not_zero (suc y) f = omega arith

-- a test made of two, and of three
module _ {P Q : Type 0} {a : Bool} (s : Tells P Q a) {P' Q' : Type 0} {b : Bool} (t : Tells P' Q' b) where
  pub one_of_two : Tells (P ⊎ P') (Q × Q') (a || b)
  one_of_two =
      record {
        passes = λ e. one_passes (or_cases a b e);
        fails = λ e. let z = neither a b e in (s.fails z.0, t.fails z.1);
        not_both = λ p q. clashes p q;
      }
    where
      one_passes : (a ≡ true) ⊎ (b ≡ true) → P ⊎ P'
      one_passes (inl e) = inl (s.passes e)
      one_passes (inr e) = inr (t.passes e)

      clashes : P ⊎ P' → Q × Q' → ⊥
      clashes (inl p) q = s.not_both p q.0
      clashes (inr p) q = t.not_both p q.1

-- `a || b || c` groups to the left
pub one_of_three : {P Q P' Q' P'' Q'' : Type 0} {a b c : Bool} → Tells P Q a → Tells P' Q' b → Tells P'' Q'' c → Tells (P ⊎ (P' ⊎ P'')) (Q × Q' × Q'') (a || b || c)
one_of_three {P} {Q} {P'} {Q'} {P''} {Q''} {a} {b} {c} s t u =
    record {
      passes = λ e. regroup (z.passes e);
      fails = λ e. let y = z.fails e in (y.0.0, y.0.1, y.1);
      not_both = λ p q. z.not_both (group p) ((q.0, q.1), q.2);
    }
  where
    z : Tells ((P ⊎ P') ⊎ P'') ((Q × Q') × Q'') (a || b || c)
    z = one_of_two (one_of_two s t) u

    regroup : (P ⊎ P') ⊎ P'' → P ⊎ (P' ⊎ P'')
    regroup (inl (inl p)) = inl p
    regroup (inl (inr p)) = inr (inl p)
    regroup (inr p) = inr (inr p)

    group : P ⊎ (P' ⊎ P'') → (P ⊎ P') ⊎ P''
    group (inl p) = inl (inl p)
    group (inr (inl p)) = inl (inr p)
    group (inr (inr p)) = inr p
