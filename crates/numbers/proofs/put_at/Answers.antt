-- `put_at` meets its contract: what `put_part` puts into the part stands at `at` in the room. Assumes nothing.
use Prim.Native.Nat.{ℕ, ◌+◌}
use mathlib.Core.Path.{ap}
use Rattle.numbers.specs.Numbers.{written}
use Rattle.numbers.proofs.Parts.{put_filled}
use Rattle.numbers.proofs.put_at.Goals as goal

pub returns : goal.returns
returns c = record {
  put = let z = c.args in
      let p = c.put_part-size.ensures in
      (ap (λ (x : ℕ). z.at + x) p.0, put_filled z.room.now z.at (written z.n) p.1 c.number_size.ensures.sized.0);
}
