-- `shortest::push` meets its contract: by the test: the stores of a push, or the end of a row.
use native.Mathlib.Omega.{arith}
use Rattle.shortest.proofs.Rows.{push_post, push_none}
use Rattle.shortest.proofs.push.Goals as goal

pub returns-then-x-posts : goal.returns-then-x-posts
returns-then-x-posts c = push_post _ _ _ (c.args.first.now, c.args.next.now) (omega arith)

pub returns-else-x-posts : goal.returns-else-x-posts
returns-else-x-posts c = push_none _ _ _ (c.args.first.now, c.args.next.now) (omega arith)
