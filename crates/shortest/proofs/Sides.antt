-- From the code's lists, side by side, to the segments of `net`: ends, what leads where, and what relaxing does. Rests on `Settling` and `hanging`'s `Sides`.
use mathlib.Core.Path.{◌≡◌, refl, sym, ◌∙◌}
use mathlib.Core.Bool.{Bool, true, false, cond, ◌||◌}
use mathlib.Core.List.{List}
use mathlib.Core.Logic.{inl, inr, ⊎_elim}
use Prim.Native.Nat.{ℕ, ◌<◌}
use native.Mathlib.Omega.{arith}
use lib.ListN.{length}
use lib.Dec.{eqb}
use borrow.Author.Tests.{eq-eqb, eqb-true}
use Rattle.net.specs.Net.{segments_of, Leads}
use Rattle.net.proofs.Words.{or_right}
use Rattle.net.proofs.Least.{Inside}
use Rattle.hanging.specs.Lists.{flag, note, Ends, Sides}
use Rattle.shortest.specs.Notes.{Joins, Relaxed}
use Rattle.net.proofs.Segments.{length_segments, segments_are}
use Rattle.hanging.proofs.Sides.{sides_many, sides_are}
use Rattle.shortest.proofs.Settling.{Relaxes}

-- `Joins` is what `Leads` tests
pub joins_test : {x y u v : ℕ} → Joins x y u v → (eqb x u || eqb y u ≡ true) × (cond (eqb x u) y x ≡ v)
joins_test {x} {y} {u} {v} (Joins.forth e f) = let z = eq-eqb x u e in (rw z, rw z f)
joins_test {x} {y} {u} {v} (Joins.back e f) = (or_right (eqb x u) (eqb y u) (eq-eqb y u e), pick (eqb x u) refl)
  where
    pick : (t : Bool) → eqb x u ≡ t → cond t y x ≡ v
    pick true q = e ∙ sym (eqb-true x u q) ∙ f
    pick false q = f

pub test_joins : {x y u v : ℕ} (t : Bool) → eqb x u ≡ t → t || eqb y u ≡ true → cond t y x ≡ v → Joins x y u v
test_joins {x} {y} {u} {v} true e q r = Joins.forth (eqb-true x u e) r
test_joins {x} {y} {u} {v} false e q r = Joins.back (eqb-true y u q) r

-- the ends of every segment that is there are posts, whatever its length
pub ends_inside : {posts : ℕ} {a b : List ℕ} {ok : ℕ → Bool} (lengths : List ℕ) → Ends posts a b ok → length lengths ≡ length a → Inside (segments_of a b lengths) ok posts
ends_inside {posts} {a} {b} lengths z h =
    let y = segments_are a b lengths z.b_many h in
    let n = length_segments a b lengths z.b_many h in
    record {
      a_in = λ i k o. rw (y.a_is i) (z.a_in i (omega arith) o);
      b_in = λ i k o. rw (y.b_is i) (z.b_in i (omega arith) o);
    }

module _ {posts : ℕ} {a b weights : List ℕ} {present : List Bool} (z : Sides posts a b weights present) where
  -- the ends of every present segment are posts
  pub sides_inside : Inside (segments_of a b weights) (flag present) posts
  sides_inside = ends_inside weights z.ends z.weights_many

  pub joins_leads : {i u v : ℕ} → i < length a → Joins (note a i) (note b i) u v → Leads (segments_of a b weights) i u v
  joins_leads {i} {u} {v} h j =
      let t = joins_test j in
      record { is_segment = omega (arith, sides_many z); ends = rw ((sides_are z).a_is i, (sides_are z).b_is i) t.0; across = rw ((sides_are z).a_is i, (sides_are z).b_is i) t.1 }

  pub leads_joins : {i u v : ℕ} → Leads (segments_of a b weights) i u v → Joins (note a i) (note b i) u v
  leads_joins {i} {u} {v} l = test_joins (eqb (note a i) u) refl (rw ((sides_are z).a_is i, (sides_are z).b_is i) at l.ends) (rw ((sides_are z).a_is i, (sides_are z).b_is i) at l.across)

  -- the end to which a present segment leads is a post
  pub joins_in : (i u v : ℕ) → i < length a → flag present i ≡ true → Joins (note a i) (note b i) u v → v < posts
  joins_in i u v h o (Joins.forth e f) = rw f at (z.ends.b_in i h o)
  joins_in i u v h o (Joins.back e f) = rw f at (z.ends.a_in i h o)

  -- what the code offered is every present segment
  pub relaxes : {u du : ℕ} {d d' : ℕ → ℕ} → Relaxed a b weights present u du d d' → Relaxes (segments_of a b weights) (flag present) (note weights) u du d d'
  relaxes r =
      record {
        falls = r.falls;
        most = λ i v l o. r.most i v (omega (arith, l.is_segment, sides_many z)) o (leads_joins l);
        from = λ v. ⊎_elim inl (λ q. inr (q.0, joins_leads q.1 q.3, q.2, q.4)) (r.from v);
      }
