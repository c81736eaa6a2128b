-- `number_at` meets its contract. The loop's invariant says how far the number is read; each way out is a law of Loops. Assumes nothing.
use Prim.Native.Nat.{◌-◌}
use native.Mathlib.Omega.{arith}
use Rattle.numbers.proofs.Loops.{begin, full, unit_few, adds, ten, nought, found, more}
use Rattle.numbers.proofs.number_at.Goals as goal

pub loop-k-init : goal.loop-k-init
loop-k-init c = begin _ _ (omega arith)

pub returns-then-bytes-i : goal.returns-then-bytes-i
returns-then-bytes-i c = record { read = ten c.loop-k.invariant (omega arith) (omega arith) }

pub returns-then-at-i : goal.returns-then-at-i
returns-then-at-i c = record { read = nought c.loop-k.invariant (omega arith) c.from-b.result c.from-b.ensures (omega arith) (omega arith) (omega arith) }

pub overflow_mul-value : goal.overflow_mul-value
overflow_mul-value c = omega (arith, adds c.loop-k.invariant (omega arith) c.from-b.result (omega arith))

pub overflow_add-value : goal.overflow_add-value
overflow_add-value c = omega (arith, unit_few c.loop-k.invariant (omega arith), adds c.loop-k.invariant (omega arith) c.from-b.result (omega arith))

pub returns-then-b-lt128 : goal.returns-then-b-lt128
returns-then-b-lt128 c = record { read = found c.loop-k.invariant (omega arith) c.from-b.result c.from-b.ensures (omega arith) (omega arith) (λ s. omega arith) }

pub overflow_mul-low : goal.overflow_mul-low
overflow_mul-low c = omega (arith, adds c.loop-k.invariant (omega arith) (c.from-b.result - 128) (omega arith))

pub overflow_add-low : goal.overflow_add-low
overflow_add-low c = omega (arith, unit_few c.loop-k.invariant (omega arith), adds c.loop-k.invariant (omega arith) (c.from-b.result - 128) (omega arith))

pub overflow_mul-unit : goal.overflow_mul-unit
overflow_mul-unit c = omega (arith, unit_few c.loop-k.invariant (omega arith))

pub loop-k-preserved : goal.loop-k-preserved
loop-k-preserved c = more c.loop-k.invariant (omega arith) c.from-b.result c.from-b.ensures (omega arith) (omega arith) (omega arith) (omega arith)

pub returns : goal.returns
returns c = record { read = full c.loop-k.invariant (omega arith) }
