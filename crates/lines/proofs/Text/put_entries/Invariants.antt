-- `put_entries` meets its contract: the entries are put post by post (`Entries`).
use Rattle.lines.proofs.Entries.{Entries}
use Rattle.lines.proofs.Text.put_entries.Given as goal

abbrev pub invariant-loop-v : goal.invariant-loop-v
invariant-loop-v l = Entries l.source l.entries l.posts l.v l.initial.self l.self
