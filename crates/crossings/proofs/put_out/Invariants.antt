-- The first i of the places hold the first i segments.
use Rattle.std.proofs.Common.{◌≡◌}
use Rattle.net.specs.Ready.{segments_in}
use Rattle.crossings.specs.Lists.{laid}
use Rattle.crossings.proofs.put_out.Given as goal

abbrev pub invariant-loop-i : goal.invariant-loop-i
invariant-loop-i l = l.place-items ≡ laid l.i (segments_in l.segments) l.initial.place-items
