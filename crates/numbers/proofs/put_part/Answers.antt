-- `put_part` meets its contract: the part that `put_number` hands back is the one that it got, so what it shows is what the lender finds. Assumes nothing.
use Prim.Native.Nat.{ℕ}
use mathlib.Core.Path.{sym, ap, ◌∙◌}
use mathlib.Core.List.{List}
use lib.ListN.{length}
use denote.Ref.{MutBor}
use Rattle.numbers.proofs.put_part.Goals as goal

pub returns : goal.returns
returns c =
    let e = c.put_number-written.ensures.handed.1 c.requires in
    (ap (λ (x : MutBor (List ℕ)). length x.now) e, c.part-1.given.1.0 (sym (ap (λ (x : MutBor (List ℕ)). x.ghost_name) e)) ∙ ap (λ (x : MutBor (List ℕ)). x.now) e)
