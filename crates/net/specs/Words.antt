-- The words that the definitions of a net are written in: a thing done for each number below n, a thing done only where
-- a test passes, a list given by its rule, a sum, a least and a lowest. Relies on nothing of ours; every other file of
-- specs/ stands on it.
use Rattle.std.specs.Prelude.{Bool, true, false, ◌&&◌, ◌||◌, List, [], ◌∷◌, ◌++◌, ℕ, zero, suc, ◌+◌, min, max, eqb}

module _ {S : Type 0} where
  -- for i = 0, 1, .., n − 1 in turn, s becomes f i s
  abbrev pub each : ℕ → (ℕ → S → S) → S → S
  each zero f s = s
  each (suc n) f s = f n (each n f s)

  -- s becomes f s where the test passes, and stays as it is elsewhere
  abbrev pub only : Bool → (S → S) → S → S
  only true f s = f s
  only false f s = s

  -- the list f 0, f 1, .., f (n − 1)
  abbrev pub tab : ℕ → (ℕ → S) → List S
  tab zero f = []
  tab (suc n) f = tab n f ++ (f n ∷ [])

-- c where the test passes, and 0 elsewhere
abbrev pub counted : Bool → ℕ → ℕ
counted true c = c
counted false c = 0

-- f 0 + f 1 + .. + f (n − 1)
abbrev pub sum : ℕ → (ℕ → ℕ) → ℕ
sum n f = each n (λ i x. x + f i) 0

-- the largest of f 0, f 1, .., f (n − 1), and 0 where there is none
abbrev pub largest : ℕ → (ℕ → ℕ) → ℕ
largest n f = each n (λ i x. max x (f i)) 0

-- some number below n passes the test
abbrev pub any : ℕ → (ℕ → Bool) → Bool
any n t = each n (λ i b. b || t i) false

-- P holds of every number of a list
abbrev pub AllOf : (ℕ → Type 0) → List ℕ → Type 0
AllOf P [] = Unit {0}
AllOf P (v ∷ vs) = P v × AllOf P vs

-- the least of x and of every f i with i below m that passes the test
abbrev pub least_of : ℕ → (ℕ → Bool) → (ℕ → ℕ) → ℕ → ℕ
least_of m t f = each m (λ i. only (t i) (λ y. min (f i) y))

-- "65,535 for the source": the entry of a post that hangs by no segment
abbrev pub no_segment : ℕ
no_segment = 65535

-- the lowest number below m that passes the test, and 65,535 where none does
abbrev pub lowest : ℕ → (ℕ → Bool) → ℕ
lowest m t = each m (λ i r. only (eqb r no_segment && t i) (λ _. i) r) no_segment
