-- `margin_joined` meets its contract: a least length, a path and the ratio of the post. Assumes nothing.
use mathlib.Core.Path.{refl, ◌∙◌}
use native.Mathlib.Omega.{arith}
use Rattle.net.proofs.Own.{ratios_count}
use Rattle.trees.proofs.Ready.{dist_long, least_small}
use Rattle.margins.proofs.Margins.{back, ratio_small, margin_of_law}
use Rattle.margins.proofs.margin_joined.Goals as goal

pub number_for-own_p-requires : goal.number_for-own_p-requires
number_for-own_p-requires c =
    let n = c.args.net in
    omega (arith, n.rated, c.requires.post_bound, dist_long n.sound refl c.requires.worked.0, ratios_count n.lists.own.p.now n.lists.own.q.now)

pub number_for-own_q-requires : goal.number_for-own_q-requires
number_for-own_q-requires c =
    let n = c.args.net in
    omega (arith, n.rated, c.requires.post_bound, dist_long n.sound refl c.requires.worked.0, ratios_count n.lists.own.p.now n.lists.own.q.now)

pub margin_by-requires : goal.margin_by-requires
margin_by-requires c =
    let n = c.args.net in
    let s = ratio_small n.sound n.rated c.requires.worked.0 _ c.requires.post_bound c.number_for-own_p.ensures.ruling c.number_for-own_q.ensures.ruling in
    (s.0, s.1, least_small n.sound c.requires.worked.0 _ c.requires.post_bound)

pub returns : goal.returns
returns c =
    let n = c.args.net in
    back c.margin_by.result c.margin_by.type_inv
    ∙ margin_of_law n.sound n.rated c.requires.worked.0 c.args.post c.requires.post_bound c.number_for-own_p.ensures.ruling c.number_for-own_q.ensures.ruling c.args.tree c.requires.worked.1 c.path_in-path.ensures c.margin_by.ensures
