-- The ways out of the preparation: a post that isn't joined, or all trees. Rests on what the least lengths say of 9 (`Joined`) and on the trees (`Ready`).
use mathlib.Core.Path.{◌≡◌, refl}
use mathlib.Core.List.{List}
use Rattle.std.specs.Prelude.{Ok, Err, None, Some}
use Prim.Native.Nat.{ℕ}
use native.Mathlib.Omega.{arith}
use lib.ListN.{length}
use Rattle.net.specs.Net.{Net, every}
use Rattle.net.specs.Building.{lightest_of, between_of, laid_of}
use Rattle.net.specs.Refusals.{refusal}
use Rattle.net.specs.declared.Head.{Head}
use Rattle.hanging.specs.Lists.{note}
use Rattle.shortest.specs.Notes.{LowestApart}
use Rattle.net.specs.Ready.{net_at, Ready}
use Rattle.trees.specs.Worked.{Worked, LeftJoined, LeftApart, Prepares}
use Rattle.trees.proofs.Joined.{table_apart, table_joined}

module _ {n : Net} {dist light short third light' third' : List ℕ} (w : Worked n dist short) where
  -- 9 at v
  left_apart : {v : ℕ} → LeftApart n v light third light' third' → Prepares n light third (Err (refusal 9 v)) dist light' short third'
  left_apart {v} o =
      record { worked = w; apart = λ {e = x} h. let k : x ≡ refusal 9 v = cc in (v, k, o); joined = λ h. absurd (let k : ◌≡◌ {A = ℕ} 0 1 = cc in omega arith) }

  -- all trees
  left_joined : {laid : ℕ} → LeftJoined n laid light' short third' → Prepares n light third (Ok laid) dist light' short third'
  left_joined {laid} t =
      record { worked = w; apart = λ h. absurd (let k : ◌≡◌ {A = ℕ} 0 1 = cc in omega arith); joined = λ {laid = x} e. let k : x ≡ laid = cc in rw k t }

-- d are the least lengths, where the lowest post without one is looked for
module _ {head : Head} {p q a b lengths : List ℕ} (r : Ready head p q a b lengths) {d s : List ℕ} (w : Worked (net_at head p q a b lengths) d s) where
  pub prepares_apart : (v : ℕ) → LowestApart (length d) (note d) (Some v) → (light third : List ℕ) → Prepares (net_at head p q a b lengths) light third (Err (refusal 9 v)) d light s third
  prepares_apart v z light third = left_apart w (record { nine = table_apart r w v z; light_kept = refl; third_kept = refl })

  pub prepares_joined : LowestApart (length d) (note d) None → (light third : List ℕ) {laid : ℕ} {light' third' : List ℕ} → light' ≡ lightest_of every (net_at head p q a b lengths)
      → (laid ≡ length (laid_of every (net_at head p q a b lengths))) × (third' ≡ between_of every (net_at head p q a b lengths))
      → Prepares (net_at head p q a b lengths) light third (Ok laid) d light' s third'
  prepares_joined z light third e f =
      left_joined w
      (record {
        none_apart = table_joined r w z;
        trees = record { light_is = e; short_is = w.tree_is; third_is = f.1 };
        laid_is = f.0;
      })
