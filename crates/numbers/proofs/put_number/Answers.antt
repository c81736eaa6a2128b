-- `put_number` meets its contract: what is handed back is what `fill_number` wrote, or nothing; the room itself where that is all of it. Assumes nothing.
use native.Mathlib.Omega.{arith}
use mathlib.Core.Path.{sym, ap}
use mathlib.Core.List.{List}
use Prim.Native.Nat.{ℕ}
use denote.Ref.{at_last}
use Rattle.numbers.proofs.Parts.{part_too_big, part_too_long, part_written, part_long, all_written, all_part}
use Rattle.numbers.proofs.put_number.Goals as goal

pub returns-then-n-gt-MOST_NUMBER : goal.returns-then-n-gt-MOST_NUMBER
returns-then-n-gt-MOST_NUMBER c = record { handed = (sym (part_too_big _ _ (omega arith)), λ f. absurd (omega (arith, f.few))) }

pub returns-then-room-size : goal.returns-then-room-size
returns-then-room-size c = record { handed = (sym (part_too_long _ _ (omega arith) (omega (arith, c.number_size-size.ensures.sized.0))), λ f. absurd (omega (arith, f.long, c.number_size-size.ensures.sized.0))) }

pub returns-then-room-size-2 : goal.returns-then-room-size-2
returns-then-room-size-2 c = record {
  handed = let z = c.args in
      let s = c.number_size-size.ensures.sized.0 in
      let e = c.fill_number.ensures.1 in
      let w = all_written z.n z.room.now _ (omega arith) (omega (arith, s)) e (omega (arith, s)) in
      (all_part z.n z.room.now _ (omega arith) (omega (arith, s)) e (omega (arith, s)), λ f. ap (λ (x : List ℕ). at_last z.room x) w);
}

pub returns : goal.returns
returns c = record {
  handed = let z = c.args in
      let s = c.number_size-size.ensures.sized.0 in
      let e = c.fill_number.ensures.1 in
      let l = part_long z.n z.room.now _ (omega arith) (omega (arith, s)) e in
      (part_written z.n z.room.now _ (omega arith) (omega (arith, s)) e s, λ f. absurd (omega (arith, f.long, s, l)));
}
