use native.Mathlib.Omega.{arith}
use Rattle.net.proofs.Segments.{segments_count}
use Rattle.checks.proofs.segment_count.Goals as goal

pub returns : goal.returns
returns c = let s = c.args.segments in record { counted = omega (arith, segments_count s.a.now s.b.now s.lengths.now) }
