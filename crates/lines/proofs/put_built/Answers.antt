-- `put_built` meets its contract: five lines, each behind the other, and all of them fit (`fit`).
use Prim.Native.Nat.{◌≤◌}
use native.Mathlib.Omega.{arith}
use Rattle.std.proofs.Common.{rules}
use Rattle.lines.specs.Text.{program_text}
use Rattle.lines.specs.Putting.{most_text}
use Rattle.lines.proofs.Placing.{wrote_then}
use Rattle.lines.proofs.Lengths.{five_lines, five_short}
use Rattle.lines.proofs.put_built.Goals as goal

pub put_net_line-requires : goal.put_net_line-requires
put_net_line-requires c =
    let fit : five_lines c.args.plan.head c.args.plan.count c.args.plan.built.lightest c.args.plan.built.shortest c.args.plan.built.between c.args.plan.built.laid c.args.lightest.now c.args.shortest.now c.args.between.now ≤ most_text = five_short c.args.plan.head _ _ _ _ _ _ _ _ (omega arith) (λ v. omega (arith, c.type_inv.lightest v)) (λ v. omega (arith, c.type_inv.shortest v)) (λ v. omega (arith, c.type_inv.between v)) in
    omega arith

pub put_tree_line-requires-clause-entries_bound : goal.put_tree_line-requires-clause-entries_bound
put_tree_line-requires-clause-entries_bound c =
    let fit : five_lines c.args.plan.head c.args.plan.count c.args.plan.built.lightest c.args.plan.built.shortest c.args.plan.built.between c.args.plan.built.laid c.args.lightest.now c.args.shortest.now c.args.between.now ≤ most_text = five_short c.args.plan.head _ _ _ _ _ _ _ _ (omega arith) (λ v. omega (arith, c.type_inv.lightest v)) (λ v. omega (arith, c.type_inv.shortest v)) (λ v. omega (arith, c.type_inv.between v)) in
    omega arith

pub put_tree_line-requires-2-clause-entries_bound : goal.put_tree_line-requires-2-clause-entries_bound
put_tree_line-requires-2-clause-entries_bound c =
    let fit : five_lines c.args.plan.head c.args.plan.count c.args.plan.built.lightest c.args.plan.built.shortest c.args.plan.built.between c.args.plan.built.laid c.args.lightest.now c.args.shortest.now c.args.between.now ≤ most_text = five_short c.args.plan.head _ _ _ _ _ _ _ _ (omega arith) (λ v. omega (arith, c.type_inv.lightest v)) (λ v. omega (arith, c.type_inv.shortest v)) (λ v. omega (arith, c.type_inv.between v)) in
    omega arith

pub put_tree_line-requires-3-clause-entries_bound : goal.put_tree_line-requires-3-clause-entries_bound
put_tree_line-requires-3-clause-entries_bound c =
    let fit : five_lines c.args.plan.head c.args.plan.count c.args.plan.built.lightest c.args.plan.built.shortest c.args.plan.built.between c.args.plan.built.laid c.args.lightest.now c.args.shortest.now c.args.between.now ≤ most_text = five_short c.args.plan.head _ _ _ _ _ _ _ _ (omega arith) (λ v. omega (arith, c.type_inv.lightest v)) (λ v. omega (arith, c.type_inv.shortest v)) (λ v. omega (arith, c.type_inv.between v)) in
    omega arith

pub put_laid_line-requires : goal.put_laid_line-requires
put_laid_line-requires c =
    let fit : five_lines c.args.plan.head c.args.plan.count c.args.plan.built.lightest c.args.plan.built.shortest c.args.plan.built.between c.args.plan.built.laid c.args.lightest.now c.args.shortest.now c.args.between.now ≤ most_text = five_short c.args.plan.head _ _ _ _ _ _ _ _ (omega arith) (λ v. omega (arith, c.type_inv.lightest v)) (λ v. omega (arith, c.type_inv.shortest v)) (λ v. omega (arith, c.type_inv.between v)) in
    omega arith

pub returns : goal.returns
unfolding program_text
returns c =
    let w = wrote_then (wrote_then (wrote_then (wrote_then c.put_net_line.ensures c.put_tree_line.ensures) c.put_tree_line-2.ensures) c.put_tree_line-3.ensures) c.put_laid_line.ensures in
    let p = w.put in
    let e = w.room in
    record { put = search rules }
