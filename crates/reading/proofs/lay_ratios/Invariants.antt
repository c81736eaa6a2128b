-- `lay_ratios` meets its contract: two lists of numbers are laid over two others, post by post, the source's place left out. Assumes nothing.
use Rattle.net.specs.Ready.{ratios_in}
use Rattle.reading.proofs.Laid.{Laying}
use Rattle.reading.proofs.lay_ratios.Given as goal

abbrev pub invariant-loop-post : goal.invariant-loop-post
invariant-loop-post l = Laying (λ o. o.p) l.head (ratios_in l.own) l.initial.p l.p l.post × Laying (λ o. o.q) l.head (ratios_in l.own) l.initial.q l.q l.post
