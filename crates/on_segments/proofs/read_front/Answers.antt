-- `read_front` meets its contract: reading into lists to work in, and its ratios laid over the lent ones. Assumes nothing.
use native.Mathlib.Omega.{arith}
use Rattle.net.specs.Net.{ratios_of}
use Rattle.net.proofs.Checks.{passed_on}
use Rattle.on_segments.proofs.Laws.{posts_within, within_read, laid_read, laid_kept, reads_front}
use Rattle.on_segments.proofs.read_front.Goals as goal

pub returns-in_err-counted : goal.returns-in_err-counted
returns-in_err-counted c =
    let z = c.args in
    let e = c.in_err-counted.was in
    let o = ratios_of c.read_in.new.p c.read_in.new.q in
    rw (passed_on c.from_residual.ensures.1)
    (rw e at (reads_front z.bytes.now z.p.now z.q.now z.room c.min-ratios.ensures c.read_in.ensures.reads (laid_kept (λ o. o.p) o z.p.now e) (laid_kept (λ o. o.q) o z.q.now e)))

pub lay_ratios-requires : goal.lay_ratios-requires
lay_ratios-requires c =
    let z = c.args in
    let w = posts_within z.bytes.now z.p.now z.q.now z.room c.min-ratios.ensures c.read_in.ensures.reads (omega arith) (omega arith) in
    let e = c.in_ok-counted.was in
    (within_read e w.0, within_read e w.1, within_read e w.2, within_read e w.3)

pub returns : goal.returns
returns c =
    let z = c.args in
    let e = c.in_ok-counted.was in
    let o = ratios_of c.read_in.new.p c.read_in.new.q in
    let l = c.lay_ratios.ensures in
    rw e at (reads_front z.bytes.now z.p.now z.q.now z.room c.min-ratios.ensures c.read_in.ensures.reads (laid_read (λ o. o.p) o z.p.now e l.p_laid) (laid_read (λ o. o.q) o z.q.now e l.q_laid))
