-- Runs of bytes that stand in a record, one behind the other; a number is read exactly where its bytes stand. Relies on Groups.
use Prim.Native.Nat.{ℕ, ◌+◌, ◌<◌}
use mathlib.Core.Path.{◌≡◌, refl, sym, ap, ◌∙◌}
use mathlib.Core.List.{List, [], ◌++◌, append_assoc}
use native.Mathlib.Omega.{arith}
use lib.ListN.{length, drop, length-append}
use lib.Seq.{drop-drop, drop-append_seam}
use Rattle.numbers.specs.Numbers.{Bytes, most_numbers, written, got, number}
use Rattle.numbers.specs.Rules.{Stand}
use Rattle.numbers.proofs.Groups.{number_of_written, written_of_number}

module _ {bytes : List ℕ} where
  -- one run behind another
  pub stand_append : {u v : List ℕ} {at i j : ℕ} → Stand bytes at u i → Stand bytes i v j → Stand bytes at (u ++ v) j
  stand_append {u} {v} s t =
      let a = s.size in
      let b = t.size in
      record {
        stand = s.stand ∙ rw t.stand (sym (append_assoc u v _));
        size = simp length-append (omega arith);
      }

  -- and the two taken apart
  pub stand_first : (u v : List ℕ) {at j : ℕ} → Stand bytes at (u ++ v) j → Stand bytes at u (at + length u)
  stand_first u v {at} {j} s =
      let d : drop (at + length u) bytes ≡ v ++ drop j bytes =
      sym (drop-drop (length u) at bytes) ∙ rw (s.stand, append_assoc) (drop-append_seam u (v ++ drop j bytes)) in
      record { stand = s.stand ∙ rw (d, append_assoc); size = refl }

  pub stand_second : (u v : List ℕ) {at j : ℕ} → Stand bytes at (u ++ v) j → Stand bytes (at + length u) v j
  stand_second u v {at} {j} s =
      let z = s.size in
      let l = length-append u v in
      record {
        stand = sym (drop-drop (length u) at bytes) ∙ rw (s.stand, append_assoc) (drop-append_seam u (v ++ drop j bytes));
        size = omega arith;
      }

  pub stand_none : (at : ℕ) → Stand bytes at [] at
  stand_none at = record { stand = refl; size = omega arith }

-- a number's bytes read as that number
pub number_stands : {bytes : List ℕ} {at n next : ℕ} → n < most_numbers → Stand bytes at (written n) next → number bytes at ≡ got n next
number_stands {bytes} {at} {n} {next} small s =
    number_of_written bytes at n (drop next bytes) small s.stand ∙ (let z = s.size in ap (λ (x : ℕ). got n x) (sym z))

-- and no others do
pub record NumberIs (bytes : List ℕ) (at n next : ℕ) : Type 0 where
  pub small : n < most_numbers
  pub stands : Stand bytes at (written n) next

pub number_is : {bytes : List ℕ} {at n next : ℕ} → Bytes bytes → number bytes at ≡ got n next → NumberIs bytes at n next
number_is {bytes} {at} {n} {next} all e =
    let s = written_of_number bytes at n next all e in
    record { small = s.small; stands = record { stand = s.stands; size = s.size } }

-- two numbers that read from one place are equal, and so are two readings of equal bytes
pub number_once : {bytes : List ℕ} {at n m i j : ℕ} → n < most_numbers → m < most_numbers → Stand bytes at (written n) i → Stand bytes at (written m) j → n ≡ m
number_once p q s t = let e = number_stands p s in let f = number_stands q t in cc
