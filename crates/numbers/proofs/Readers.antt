-- What the walks over a reader share: the types that cross, and what a reader owns. That is what its bytes own, beside the facts of its place:
-- it is made of them (`reader_made`), it gives them up (`reader_opened`), and it can be had twice (`reader_twice`). Relies on `Held` of `by_hand`. Assumes `Logic`.
use Prim.Native.Nat.{ℕ, ◌<◌, ◌^◌}
use mathlib.Core.Path.{refl}
use mathlib.Core.List.{List, [], ◌∷◌}
use seplogic.Ra.Ura.{Ura}
use mir.Syntax.{w64}
use base.Logic.{ent, sep}
use types.Logic.{Logic}
use contract.Lifetimes.{Lfts, Within}
use types.Kit.{mean, ‵, ◌⊛◌, given, ◌$◌, ◌∵◌, !, qed, by, move, drop, use1, split, learn, fjoin, done}
use denote.Laws.{Is}
use denote.Plain.{uint_Makes}
use denote.Builtin.{u8, usize}
use denote.Ref.{Bor}
use denote.Signature.{named_lft}
use denote.Steps.{nothing, owned}
use denote.Struct.Declared.{Declared}
use denote.Struct.Laws as LL
use denote.Struct.Values.{Values}
use denote.Struct.Rest.{all_own, field_own, rest, own_open, own_out, own_shut}
use Rattle.by_hand.proofs.Params.{Data, enum}
use Rattle.by_hand.proofs.Held.{Held, slice, struct, own_of}
use Rattle.numbers.specs.declared.reader.Reader.{Reader}
use Rattle.numbers.specs.contracts.Number as Number
use Rattle.numbers.proofs.Number.TheLaws as Number'
use Rattle.numbers.specs.contracts.Misread as Misread
use Rattle.numbers.proofs.Misread.TheLaws as Misread'
use Rattle.std.specs.contracts.result.Result as Result
use Rattle.std.proofs.result.Result.TheLaws as Result'
use Rattle.numbers.specs.contracts.reader.Reader as T
use Rattle.numbers.proofs.reader.Reader.TheLaws as T'

-- a `Result` of a number or a refusal
abbrev pub numbered : Data
numbered =
    let N = Number.the_row in let M = Misread.the_row in let n = Number'.the_row_laws in let m = Misread'.the_row_laws in
    enum (Result.the_type N M) tt (Result'.the_laws N M n m Number'.the_told Misread'.the_told)
    (Result'.the_copy N M n m Number'.the_row_copy Misread'.the_row_copy) (Result'.the_plain N M Number'.the_row_plain Misread'.the_row_plain)

abbrev pub bytes : Held 1
bytes = slice 0 tt u8

-- a reader whose bytes are lent at lifetime j of n
abbrev pub reader_of : {n : ℕ} (j : ℕ) → Within n j → Held n
reader_of j ok = struct j ok T.the_type T'.the_laws T'.the_copy

abbrev pub reader : Held 1
reader = reader_of 0 tt

module _ {M : Type 1} {𝓤 : Ura M} (𝓛 : Logic 𝓤) (κs : Lfts 1) where
  abbrev D : Declared
  D = T.the_type (named_lft 1 0 tt κs)

  abbrev L : LL.Laws D
  L = T'.the_laws (named_lft 1 0 tt κs)

  pub reader_made : (s : Bor (List ℕ)) (i : ℕ) → i < 2 ^ 64 → ent 𝓤 (mean 𝓛 (own_of 𝓤 κs bytes s)) (mean 𝓛 (own_of 𝓤 κs reader (record { bytes = s; at = i })))
  reader_made s i fits =
      qed 𝓛 (own_of 𝓤 κs bytes s ∷ []) ∵
      nothing ! $ owned ! usize (Is usize) (uint_Makes 𝓛 w64) i _ (refl, fits) $ fjoin ! $ move ! (1 ∷ 0 ∷ []) $ fjoin ! $ by ! (own_shut 𝓛 D L (s, (i, tt)))

  pub reader_opened : (r : Reader) → ent 𝓤 (mean 𝓛 (own_of 𝓤 κs reader r)) (mean 𝓛 (own_of 𝓤 κs bytes r.bytes))
  reader_opened r =
      let v : Values D.parts = (r.bytes, (r.at, tt)) in
      qed 𝓛 (own_of 𝓤 κs reader r ∷ []) ∵
      use1 𝓛 (given _ (‵ (all_own D.parts L v))) (own_open 𝓛 D L v (T'.lowered r)) $ learn ! (λ _. use1 𝓛 (‵ (field_own D.parts L 0 r.bytes) ⊛ ‵ (rest D.parts L 0 v)) (own_out 𝓛 D.parts L 0 v) $ split ! $
      move ! (1 ∷ []) $ drop ! $ done !)

  pub reader_twice : (r : Reader) → ent 𝓤 (mean 𝓛 (own_of 𝓤 κs reader r)) (sep 𝓤 (mean 𝓛 (own_of 𝓤 κs reader r)) (mean 𝓛 (own_of 𝓤 κs reader r)))
  reader_twice r = (LL.copy D (T'.the_copy (named_lft 1 0 tt κs)) 𝓛).twice r (reader.val κs r ∷ [])
