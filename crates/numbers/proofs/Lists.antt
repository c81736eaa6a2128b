-- Laws of lists that the laws of a number stand on. Relies on nothing of ours.
use Prim.Native.Nat.{ℕ, zero, suc, ◌+◌, ◌<◌, ◌≤◌}
use mathlib.Core.Path.{◌≡◌, refl}
use mathlib.Core.List.{List, [], ◌∷◌}
use native.Mathlib.Numerals.{add-one}
use native.Mathlib.Omega.{arith}
use lib.ListN.{length, get_or, drop}

pub nonzero : (b : ℕ) → (b ≡ 0 → ⊥) → 1 ≤ b
nonzero zero h = absurd (h refl)
nonzero (suc b) h = omega arith

-- a list from i on that begins with x: what stands at i, and behind it
pub record Begins (l : List ℕ) (i x : ℕ) (rest : List ℕ) : Type 0 where
  pub there : i < length l
  pub is : get_or l i 0 ≡ x
  pub behind : drop (i + 1) l ≡ rest

begins' : (l : List ℕ) (i x : ℕ) (rest : List ℕ) → drop i l ≡ x ∷ rest → (i < length l) × (get_or l i 0 ≡ x) × (drop (suc i) l ≡ rest)
begins' [] zero x rest e = let z : ◌≡◌ {A = ℕ} 0 1 = cc in absurd (omega arith)
begins' [] (suc i) x rest e = let z : ◌≡◌ {A = ℕ} 0 1 = cc in absurd (omega arith)
begins' (y ∷ l) zero x rest e = (omega arith, cc, cc)
begins' (y ∷ l) (suc i) x rest e = let b = begins' l i x rest e in (omega arith, b.1, b.2)

pub begins : (l : List ℕ) (i x : ℕ) (rest : List ℕ) → drop i l ≡ x ∷ rest → Begins l i x rest
begins l i x rest e = let b = begins' l i x rest e in record { there = b.0; is = b.1; behind = rw add-one b.2 }
