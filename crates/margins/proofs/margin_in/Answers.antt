-- `margin_in` meets its contract: a way out for 9, one for 19, and the margin. Assumes nothing.
use mathlib.Core.Path.{refl, ap}
use Rattle.std.specs.Prelude.{Err}
use Rattle.margins.proofs.Margins.{says_apart, says_beyond, says_margin}
use Rattle.margins.proofs.margin_in.Goals as goal

pub returns-in-Err : goal.returns-in-Err
returns-in-Err c =
    let n = c.args.net.lists in
    let z = c.all_trees.ensures.prepared.apart c.in-Err.is in
    says_apart n.head n.own.p.now n.own.q.now n.segments.a.now n.segments.b.now n.segments.lengths.now c.args.tree c.args.post c.args.net.sound c.args.net.rated
    z.2.nine (ap Err z.1)

pub returns-then-post-net : goal.returns-then-post-net
returns-then-post-net c =
    let n = c.args.net.lists in
    says_beyond n.head n.own.p.now n.own.q.now n.segments.a.now n.segments.b.now n.segments.lengths.now c.args.tree c.args.post c.args.net.sound c.args.net.rated
    (c.all_trees.ensures.prepared.joined c.in_default.is).none_apart c.if-post-net.true c.refuse.ensures.refused

pub returns : goal.returns
returns c =
    let n = c.args.net.lists in
    says_margin n.head n.own.p.now n.own.q.now n.segments.a.now n.segments.b.now n.segments.lengths.now c.args.tree c.args.post c.args.net.sound c.args.net.rated
    (c.all_trees.ensures.prepared.joined c.in_default.is).none_apart c.if-post-net.false refl
    c.margin_joined.result c.margin_joined.type_inv c.margin_joined.ensures
