-- `third_tree` meets its contract: the tables are made, and one call walks over them. Assumes nothing.
use Rattle.between.proofs.Starting.{tables_of}
use Rattle.between.proofs.third_tree.Goals as goal

pub walk_net-requires : goal.walk_net-requires
walk_net-requires c = let p = c.requires in
    (record { p = _; q = _; walkable = p.0; tables = tables_of _ _ _ _ _ _ _ _ _ _ c.put_parents.ensures c.put_limits.ensures }, p.1)

pub returns : goal.returns
returns c = record {
  walked = c.walk_net.ensures _ _ c.requires.0 (tables_of _ _ _ _ _ _ _ _ _ _
      c.put_parents.ensures c.put_limits.ensures);
}
