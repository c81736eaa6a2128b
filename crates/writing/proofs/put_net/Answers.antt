-- `put_net` meets its contract: the first number, the head, the posts' own ratios and the segments, each put behind the
-- one before. Assumes nothing.
use mathlib.Core.Path.{refl}
use native.Mathlib.Omega.{arith}
use Rattle.std.proofs.Common.{rules}
use Rattle.writing.proofs.Writes.{parts_length, four_put}
use Rattle.writing.proofs.put_net.Goals as goal

pub put_form-requires : goal.put_form-requires
put_form-requires c = let n = c.args.net in omega (arith, c.requires, parts_length n.sound n.rated)

pub put_head-requires : goal.put_head-requires
put_head-requires c = let n = c.args.net in omega (arith, c.requires, parts_length n.sound n.rated)

pub put_own-requires : goal.put_own-requires
put_own-requires c = let n = c.args.net in omega (arith, c.requires, parts_length n.sound n.rated)

pub put_segments-requires : goal.put_segments-requires
put_segments-requires c = let n = c.args.net in omega (arith, c.requires, parts_length n.sound n.rated)

pub returns : goal.returns
returns c =
    let n = c.args.net in
    let w = four_put n.sound n.rated refl c.put_form.ensures c.put_head.ensures c.put_own.ensures c.put_segments.ensures in
    let p = w.0 in
    let e = w.1 in
    search rules
