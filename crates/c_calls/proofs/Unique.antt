-- TWO OUTCOMES that a contract allows are equal, for the functions for C: `plan_one`, `rewrite_one`, `move_one`, `margin_one`; the others' contracts are equations. And a packed refusal
-- says no less than the refusal: equal numbers come from equal refusals (`packed_same`, `marked_same`), and no length is a marked refusal's number.
use mathlib.Core.Path.{◌≡◌, sym, ◌∙◌}
use mathlib.Core.List.{List}
use Prim.Native.Nat.{ℕ, ◌+◌, ◌*◌, ◌^◌, ◌<◌}
use native.Mathlib.Omega.{arith}
use lib.IntN.{ℤ}
use Rattle.net.specs.declared.Form.{Form}
use Rattle.net.specs.declared.Refusal.{Refusal}
use Rattle.c_numbers.specs.Named.{packed, marked}
use Rattle.c_calls.specs.Left.{PlanLeaves, RewriteLeaves, MoveLeaves, MarginLeaves}

-- planning: the number, the three lists and the summary
pub record SamePlan (r r₂ : ℕ) (l l₂ s s₂ w w₂ d d₂ : List ℕ) : Type 0 where
  pub numbers : r ≡ r₂
  pub lightest : l ≡ l₂
  pub shortest : s ≡ s₂
  pub between : w ≡ w₂
  pub summary : d ≡ d₂

pub plan_one : (bytes l s w d : List ℕ) {r r₂ : ℕ} {l' l₂ s' s₂ w' w₂ d' d₂ : List ℕ} → PlanLeaves bytes l s w d r l' s' w' d' → PlanLeaves bytes l s w d r₂ l₂ s₂ w₂ d₂
    → SamePlan r r₂ l' l₂ s' s₂ w' w₂ d' d₂
plan_one bytes l s w d x y =
    record {
      numbers = x.number ∙ sym y.number;
      lightest = x.lightest ∙ sym y.lightest;
      shortest = x.shortest ∙ sym y.shortest;
      between = x.between ∙ sym y.between;
      summary = x.summary ∙ sym y.summary;
    }

-- writing again: the number and the room
pub rewrite_one : (bytes room : List ℕ) {r r₂ : ℕ} {x x₂ : List ℕ} → RewriteLeaves bytes room r x → RewriteLeaves bytes room r₂ x₂ → (r ≡ r₂) × (x ≡ x₂)
rewrite_one bytes room p q = (p.number ∙ sym q.number, p.room_after ∙ sym q.room_after)

-- a move: the number and the room
pub move_one : (f : Form) (bytes room : List ℕ) {r r₂ : ℕ} {x x₂ : List ℕ} → MoveLeaves f bytes room r x → MoveLeaves f bytes room r₂ x₂ → (r ≡ r₂) × (x ≡ x₂)
move_one f bytes room p q = (p.number ∙ sym q.number, p.room_after ∙ sym q.room_after)

-- the margin: the number and the list
pub margin_one : (bytes : List ℕ) (tree post : ℕ) (d : List ℤ) {r r₂ : ℕ} {x x₂ : List ℤ} → MarginLeaves bytes tree post d r x → MarginLeaves bytes tree post d r₂ x₂
    → (r ≡ r₂) × (x ≡ x₂)
margin_one bytes tree post d p q = (p.number ∙ sym q.number, p.list ∙ sym q.list)

-- WHAT A PACKED REFUSAL SAYS, for a place of 32 bits
number_same : (n p m q : ℕ) → p < 2 ^ 32 → q < 2 ^ 32 → n * 2 ^ 32 + p ≡ m * 2 ^ 32 + q → (n ≡ m) × (p ≡ q)
number_same n p m q h k e = (omega arith, omega arith)

pub packed_same : (r q : Refusal) → r.place < 2 ^ 32 → q.place < 2 ^ 32 → packed r ≡ packed q → r ≡ q
packed_same r q h k e =
    let z = number_same r.number r.place q.number q.place h k e in
    λ i. record { number = z.0 i; place = z.1 i }

pub marked_same : (r q : Refusal) → r.place < 2 ^ 32 → q.place < 2 ^ 32 → marked r ≡ marked q → r ≡ q
marked_same r q h k e = packed_same r q h k (omega arith)

-- a length has 32 bits at most
pub no_length_marked : (r : Refusal) (k : ℕ) → k < 2 ^ 32 → k ≡ marked r → ⊥
no_length_marked r k h e = omega arith
