-- What a refused building means: it is refused by 9, when nothing before refuses the net or the lists, exactly when some post has no route.
use mathlib.Core.Path.{◌≡◌, sym, ◌∙◌}
use mathlib.Core.Logic.{◌↔◌}
use mathlib.Core.Option.{Option, none, some}
use Prim.Native.Nat.{ℕ, ◌≤◌, ◌<◌}
use native.Mathlib.Omega.{arith}
use Rattle.net.specs.Net.{Net, every}
use Rattle.net.specs.Refusals.{Lent, refusal}
use Rattle.net.specs.Rules.{NetSound, LongEnough, Joined}
use Rattle.net.specs.Building.{build_refusal, build_answer, build_of}
use Rattle.net.specs.declared.Refusal.{Refusal}
use Rattle.net.proofs.Refusals.{not_joined_exactly}
use Rattle.building.specs.Answers.{answer_of}
use Rattle.std.specs.Prelude.{Err}
use Rattle.building.specs.Answers.{Answer}

module _ (n : Net) (m k : ℕ) (lent : Lent) {x : Answer} (is : x ≡ answer_of (build_of every n m k lent)) where
  refusal_held : {r : Refusal} (o : Option Refusal) → answer_of (build_answer every n o) ≡ Err r → o ≡ some r
  unfolding build_answer
  refusal_held none e = absurd (let z : ◌≡◌ {A = ℕ} 0 1 = cc in omega arith)
  refusal_held (some s) e = cc

  -- what is answered is what the table gives
  pub refused_exactly : (r : Refusal) → (x ≡ Err r) ↔ (build_refusal every n m k lent ≡ some r)
  unfolding build_of build_answer
  refused_exactly r = (λ e. refusal_held (build_refusal every n m k lent) (sym is ∙ e), λ e. is ∙ rw e)

  -- "some post isn't joined to the source": 9 exactly where some post has no route, when nothing before refuses the net
  pub nine_answered : NetSound every m n → LongEnough n lent → n.head.posts ≤ k → ((v : ℕ) × (x ≡ Err (refusal 9 v))) ↔ ((v : ℕ) × (v < n.head.posts) × (Joined every n v → ⊥))
  nine_answered z y h = (
    λ g. (not_joined_exactly every m n k lent z y h).0 (g.0, (refused_exactly (refusal 9 g.0)).0 g.1),
    λ g. let i = (not_joined_exactly every m n k lent z y h).1 g in (i.0, (refused_exactly (refusal 9 i.0)).1 i.1),
  )
