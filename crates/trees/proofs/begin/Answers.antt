-- `begin` meets its contract: every entry is filled, and two stores are made (`begun`). Assumes nothing.
use Rattle.trees.proofs.Along.{begun}
use Rattle.trees.proofs.begin.Goals as goal

pub returns-clause-begun : goal.returns-clause-begun
returns-clause-begun c = let r = c.requires.source_in in
    let w = c.args.walk.now in
    begun w.flags.now w.queue.now r.0 r.1 (c.fill.ensures.after (λ _ e. e)) r.2 r.3 c.requires.none_reached
