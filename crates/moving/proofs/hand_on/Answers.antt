-- `hand_on` meets its contract: what is handed on for the bytes that were read, which are all that there is room for where n says more. Assumes nothing.
use mathlib.Core.Path.{◌≡◌}
use lib.ListN.{take}
use native.Mathlib.Omega.{arith}
use Rattle.std.proofs.lemmas.Grind.{common_steps}
use Rattle.moving.proofs.Given.{hands_by}
use borrow.Author.Rules.{rules}
use Rattle.moving.proofs.hand_on.Goals as goal

pub returns : goal.returns
returns c = record {
  handed = let cut : take c.min.result c.args.input.now ≡ take c.args.n c.args.input.now = grind (arith, common_steps) in
      record { enough = search rules; hands = hands_by c.wanted_by-wanted.ensures cut c.hand.ensures };
}
