-- `print` meets its contract: the text of the bytes that were read, which are all that there is room for where n says more. Assumes nothing.
use mathlib.Core.Path.{◌≡◌, ap}
use lib.ListN.{take}
use Rattle.std.proofs.lemmas.Grind.{common_steps}
use native.Mathlib.Omega.{arith}
use Rattle.printing.specs.Printed.{printed}
use Rattle.printing.proofs.Printing.{put_same}
use borrow.Author.Rules.{rules}
use Rattle.printing.proofs.print.Goals as goal

pub returns : goal.returns
returns c = record {
  prints = let cut : take c.min.result c.args.input.now ≡ take c.args.n c.args.input.now = grind (arith, common_steps) in
      record { enough = search rules; puts = put_same c.text.ensures (ap printed cut) };
}
