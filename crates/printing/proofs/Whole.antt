-- The program reads at most 15,372 bytes, "which is enough for a last segment of three four-byte numbers, so its answer is the reader's answer on the whole input."
use mathlib.Core.Path.{◌≡◌, ap, ◌∙◌}
use mathlib.Core.List.{List}
use Prim.Native.Nat.{ℕ, ◌+◌}
use native.Mathlib.Omega.{arith}
use lib.ListN.{length, take}
use lib.Seq.{take_at}
use Rattle.net.specs.Net.{most_posts, most_segments}
use Rattle.numbers.specs.Numbers.{Bytes}
use Rattle.reading.specs.Reading.{enough_bytes}
use Rattle.reading.proofs.Lengths.{program_enough}
use Rattle.on_records.specs.Asked.{record_read}
use Rattle.printing.specs.Printed.{lines_for, printed, Prints}

pub whole_input : (bytes : List ℕ) → Bytes bytes → printed (take enough_bytes bytes) ≡ printed bytes
unfolding printed record_read
whole_input bytes all = ap lines_for (program_enough bytes most_segments most_posts all)

-- and of what is put: where the room for what is read holds as much of the input as it takes, the text is what is printed for the whole input
pub whole_text : (bytes : List ℕ) → Bytes bytes → {input out out' : List ℕ} {n r : ℕ} → Prints input n out r out' → take n input ≡ take (length input) bytes → take r out' ≡ printed bytes
whole_text bytes all {input} {out} {out'} {n} {r} p e =
    rw (p.puts.behind, p.puts.holds) (take_at (printed (take n input)) _ (0 + length (printed (take n input))) (omega arith))
    ∙ ap printed (e ∙ ap (λ k. take k bytes) p.enough) ∙ whole_input bytes all
