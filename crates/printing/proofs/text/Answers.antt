-- `text` meets its contract: what planning answers and leaves, put into the room as lines, is what is printed. Assumes nothing.
use mathlib.Core.Path.{refl}
use native.Mathlib.Omega.{arith}
use Rattle.printing.proofs.Printing.{planned_lines, refused_lines, put_same}
use Rattle.printing.proofs.text.Goals as goal

pub put_built-requires : goal.put_built-requires
put_built-requires c = let few = (planned_lines _ _ _ refl refl refl _ c.in-Ok.ensures.planned).0 in
    record { posts_le_most_posts = few; posts_bound = (omega (arith, c.plan.auto), omega (arith, c.plan.auto), omega (arith, c.plan.auto)); most_text_bound = omega arith }

pub returns-in-Ok : goal.returns-in-Ok
returns-in-Ok c = put_same c.put_built.ensures.put (planned_lines _ _ _ refl refl refl _ c.in-Ok.ensures.planned).1

pub returns-in-Err : goal.returns-in-Err
returns-in-Err c = put_same c.put_refused.ensures.put (refused_lines _ _ _ refl refl refl _ c.in-Err.ensures.planned)
