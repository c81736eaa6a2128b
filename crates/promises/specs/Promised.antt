-- What a function's own contract says, whatever proves it. The toolchain makes a module of each function, in which its
-- contract stands as `clauses`: over what it is handed, its result and what its parameters hold in the end (`ended`).
-- The definitions here speak of these clauses in every model of the logic, and so of the function itself: a contract
-- that is emptied or weakened no longer says what it is to say. specs/Entries names the functions.
use Rattle.std.specs.Prelude.{◌≡◌}
use seplogic.Ra.Ura.{Ura}
use base.Logic.{SProp, ent, emp}
use prog.Memory.{Memory}
use prog.Routine.{Routine}
use types.Logic.{Logic}
use contract.Monad.{Fun, fact, conj}
use contract.Lifetimes.{Lfts}
use denote.Triple.Entry as Entry
use denote.Triple.Clauses.{Ended, Clauses, Lasts, at_exit}
use borrow.Fn.World.{World}

-- a function, by its contract
pub record Function : Type 3 where
  pub ended : Ended
  pub clauses : (M : Type 1) (𝓤 : Ura M) (𝓛 : Logic 𝓤) → (Memory → SProp 𝓤) → (Routine → Fun 𝓤)
      → Clauses 𝓤 ended

module _ (f : Function) where
  -- its lifetimes, what it is handed, its answer, and what everything that is lent to it holds in the end
  abbrev pub Times : Type 0
  Times = Lfts f.ended.signature.lifetimes

  abbrev pub Handed : Times → Type 0
  Handed = Entry.Args f.ended.signature

  abbrev pub Answer : Times → Type 0
  Answer = Entry.Res f.ended.signature

  abbrev pub Left : (κs : Times) → Handed κs → Type 0
  Left = Lasts f.ended

  -- its contract in a model of the logic
  abbrev in_model : (w : World) → Clauses w.𝓤 f.ended
  in_model w = f.clauses w.M w.𝓤 w.𝓛 w.𝓜.mem w.𝓡.run

  -- IT ASKS NOTHING: its `requires` holds of whatever it is handed
  abbrev pub AsksNothing : Type 2
  AsksNothing = (w : World) (κs : Times) (x : Handed κs) (g : (in_model w κs x).ghost)
      → ent w.𝓤 (emp w.𝓤) ((in_model w κs x).requires g)

  -- EVERY OUTCOME that its `ensures` allows is so: handed x, it answers r and leaves e
  abbrev pub Says : ((κs : Times) (x : Handed κs) → Answer κs → Left κs x → Type 0) → Type 2
  Says Φ = (w : World) (κs : Times) (x : Handed κs) (g : (in_model w κs x).ghost) (r : Answer κs) (e : Left κs x)
      → ent w.𝓤 ((in_model w κs x).ensures g r (at_exit f.ended κs x e)) (fact w.𝓤 (Φ κs x r e))

  -- TWO OUTCOMES that it allows are the same
  abbrev pub Alike : ((κs : Times) (x : Handed κs) → Answer κs → Left κs x → Answer κs → Left κs x → Type 0) → Type 2
  Alike Same = (w : World) (κs : Times) (x : Handed κs) (g : (in_model w κs x).ghost) (r q : Answer κs) (e o : Left κs x)
      → ent w.𝓤 (conj w.𝓤 ((in_model w κs x).ensures g r (at_exit f.ended κs x e))
      ((in_model w κs x).ensures g q (at_exit f.ended κs x o))) (fact w.𝓤 (Same κs x r e q o))

  -- the answers are equal, and so is what everything that is lent holds in the end
  abbrev pub OneOutcome : Type 2
  OneOutcome = Alike (λ κs x r e q o. (r ≡ q) × (e ≡ o))
