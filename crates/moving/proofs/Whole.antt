-- The program reads at most 15,372 bytes of a record, which is enough: what it hands on is that of the whole input.
use mathlib.Core.Path.{◌≡◌, ap, ◌∙◌}
use mathlib.Core.List.{List}
use Prim.Native.Nat.{ℕ}
use lib.ListN.{length, take}
use Rattle.net.specs.Net.{most_posts, most_segments}
use Rattle.net.specs.declared.Form.{Form}
use Rattle.numbers.specs.Numbers.{Bytes}
use Rattle.reading.specs.Reading.{enough_bytes}
use Rattle.reading.proofs.Lengths.{program_enough}
use Rattle.on_records.specs.Asked.{record_read}
use Rattle.moving.specs.Handing.{the_wanted_by, handing_of, handing, Handed, Hands, HandsOn}
use Rattle.moving.proofs.Given.{hands_same}

pub whole_input : (f : Form) (bytes : List ℕ) → Bytes bytes → handing f (take enough_bytes bytes) ≡ handing f bytes
unfolding handing record_read
whole_input f bytes all = ap (handing_of f) (program_enough bytes most_segments most_posts all)

-- and of what is put: where the room for what is read holds as much of the input as it takes
pub whole_hands : (bytes : List ℕ) → Bytes bytes → {way n : ℕ} {input out x : List ℕ} {r : Handed} → HandsOn way input n out r x → take n input ≡ take (length input) bytes
    → Hands (handing (the_wanted_by way) bytes) out r x
whole_hands bytes all {way} p e =
    hands_same p.hands (ap (handing (the_wanted_by way)) (e ∙ ap (λ k. take k bytes) p.enough) ∙ whole_input (the_wanted_by way) bytes all)
