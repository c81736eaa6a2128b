use Rattle.net.proofs.Segments.{segment_fields}
use Rattle.checks.proofs.segment_at.Goals as goal

pub returns : goal.returns
returns c = let s = c.args.segments in record { fetched = segment_fields s.a.now s.b.now s.lengths.now _ c.requires.0 c.requires.1 c.requires.2 }
