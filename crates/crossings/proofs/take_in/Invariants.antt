-- After i segments: nothing from 5 to 7 refuses them, and the first i places of the three lists hold their fields.
use Rattle.std.proofs.Common.{◌≡◌, length, map}
use Rattle.checks.proofs.Ways.{SoundBelow, segment_table}
use Rattle.crossings.specs.Lists.{laid}
use Rattle.crossings.proofs.Taking.{field_a, field_b, field_length}
use Rattle.crossings.proofs.take_in.Given as goal

abbrev pub invariant-loop-i : goal.invariant-loop-i
invariant-loop-i l = record {
  sound : SoundBelow (segment_table l.head.posts l.list) (length l.list) l.i;
  in_a : l.a ≡ laid l.i (map field_a l.list) l.fn.a;
  in_b : l.b ≡ laid l.i (map field_b l.list) l.fn.b;
  in_lengths : l.lengths ≡ laid l.i (map field_length l.list) l.fn.lengths;
}
