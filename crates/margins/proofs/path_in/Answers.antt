-- `path_in` meets its contract: the path in the tree that is named. Assumes nothing.
use mathlib.Core.Path.{refl}
use Rattle.trees.proofs.Ready.{ready_short}
use Rattle.margins.proofs.Margins.{path_at, in_lightest, in_shortest, in_between}
use Rattle.margins.proofs.path_in.Goals as goal
use Rattle.margins.proofs.path_in.Goals.{in-Lightest, in-Shortest, in-Between}

pub path_of-requires-clause-short : goal.path_of-requires-clause-short
path_of-requires-clause-short c = ready_short c.args.net.sound

pub returns : goal.returns
returns c =
    let r = c.args.net.sound in
    let e = c.path_of.ensures.measured in
    elim c.match-tree.branch [
      | in-Lightest w ↦ in_lightest _ _ _ _ _ _ w.in-Lightest.is (path_at r refl c.args.light.now c.requires.0 _ (rw w.entries-is at e))
      | in-Shortest w ↦ in_shortest _ _ _ _ _ _ w.in-Shortest.is (path_at r refl c.args.short.now c.requires.1 _ (rw w.entries-is at e))
      | in-Between w ↦ in_between _ _ _ _ _ _ w.in-Between.is (path_at r refl c.args.third.now c.requires.2 _ (rw w.entries-is at e))
    ]
