-- `check_posts` meets its contract: each turn reads the lines of one post. Assumes nothing.
use mathlib.Core.Path.{◌∙◌}
use native.Mathlib.Omega.{arith}
use Rattle.net.proofs.Checks.{passed_on}
use Rattle.net.proofs.Own.{ratios_count}
use Rattle.checks.proofs.Ways.{sound_none, sound_more, sound_all, refused_at, own_in_turn}
use Rattle.checks.proofs.check_posts.Goals as goal

pub loop-post-init : goal.loop-post-init
loop-post-init c = sound_none

pub returns-in_err-check_post : goal.returns-in_err-check_post
returns-in_err-check_post c = passed_on c.from_residual.ensures.1 ∙ own_in_turn _ _ c.requires (refused_at c.loop-post.invariant (omega (arith, ratios_count c.args.own.p.now c.args.own.q.now)) c.check_post.ensures c.in_err-check_post.was)

pub loop-post-preserved : goal.loop-post-preserved
loop-post-preserved c = sound_more c.loop-post.invariant (omega (arith, ratios_count c.args.own.p.now c.args.own.q.now)) c.check_post.ensures c.in_ok-check_post.was

pub returns : goal.returns
returns c = own_in_turn _ _ c.requires (sound_all c.loop-post.invariant (omega (arith, ratios_count c.args.own.p.now c.args.own.q.now)))
