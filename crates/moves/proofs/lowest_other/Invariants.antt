-- `lowest_other` meets its contract: no post that the loop passed has another ratio (`NoneOther`). Assumes nothing.
use Rattle.net.specs.Ready.{ratios_in}
use Rattle.moves.specs.Moves.{NoneOther}
use Rattle.moves.proofs.lowest_other.Given as goal

abbrev pub invariant-loop-post : goal.invariant-loop-post
invariant-loop-post l = NoneOther l.head (ratios_in l.own) l.post
