-- Calls of the reader's functions, as steps of a walk that carries a reader: at the head of the context stand the lifetime's token and what the reader owns.
--     starts       `new`: of what the bytes own, what a reader at 0 owns
--     reads        `number`: the reader stays as it is, and the number is known
--     goes_on      `behind`: the place after that number
--     moves        `moved`: the reader at that place
-- Each hands on that its result can be stored in a local. The caller's code is read in the environment `𝓡.env`, which has the code of the function that is called (`Wired`). Relies on `Held` of `by_hand` and on
-- Readers, and of each function on its contract alone.
use Prim.Native.Nat.{ℕ, ◌<◌, ◌^◌}
use mathlib.Core.Path.{refl}
use mathlib.Core.List.{List, [], ◌∷◌}
use lib.Dec.{T as Holds}
use seplogic.Ra.Ura.{Ura}
use mir.Syntax.{Opd as Operand, Place, Body, seq, call, w64, erased}
use mir.Val.{WT, has_ty, vint}
use base.Logic.{id⊢}
use base.Fml.{flft}
use prog.Model.{Model}
use prog.Wired.{Wired}
use prog.Wp.{Env}
use contract.Lifetimes.{Lfts, Shares}
use contract.Running.{Running}
use types.Logic.{Logic}
use types.Kit.{Item, ‵, ◌⊛◌, Post, runs, lands, Seq, ◌$◌, move, drop, use1, split}
use types.Run.{Opds}
use denote.Laws.{Is, Typed}
use denote.Ref.{Bor}
use denote.Steps.{owned}
use denote.Struct.Laws as LL
use Rattle.std.specs.Prelude.{Result}
use Rattle.by_hand.proofs.Types as Types
use Rattle.by_hand.proofs.Thin.{Over}
use Rattle.by_hand.proofs.Held.{Known, known, asks, carries, of_data, own_of}
use Rattle.numbers.specs.Numbers.{number}
use Rattle.numbers.specs.Answers.{numbered_of, behind_of}
use Rattle.numbers.specs.declared.Number.{Number}
use Rattle.numbers.specs.declared.Misread.{Misread}
use Rattle.numbers.specs.declared.reader.Reader.{Reader}
use Rattle.numbers.proofs.Readers.{numbered, bytes, reader, reader_twice}
use Rattle.numbers.specs.contracts.reader.Reader as T
use Rattle.numbers.proofs.reader.Reader.TheLaws as T'
use Rattle.numbers.specs.contracts.reader.new as new
use Rattle.numbers.proofs.reader.new.Symbol as new-def
use Rattle.numbers.proofs.reader.new.Met as new-thm
use Rattle.numbers.specs.contracts.reader.number as number-fn
use Rattle.numbers.proofs.reader.number.Symbol as number-def
use Rattle.numbers.proofs.reader.number.Met as number-thm
use Rattle.numbers.specs.contracts.reader.behind as behind
use Rattle.numbers.proofs.reader.behind.Symbol as behind-def
use Rattle.numbers.proofs.reader.behind.Met as behind-thm
use Rattle.numbers.specs.contracts.reader.moved as moved
use Rattle.numbers.proofs.reader.moved.Symbol as moved-def
use Rattle.numbers.proofs.reader.moved.Met as moved-thm

-- a reader at a place of s
abbrev pub reader_at : Bor (List ℕ) → ℕ → Reader
reader_at s i = record { bytes = s; at = i }

abbrev pub number_of : Reader → Result Number Misread
number_of r = numbered_of (number r.bytes.now r.at)

-- a reader can be stored in a local
abbrev pub Stored : Lfts 1 → Reader → Type 0
Stored κs r = Holds (has_ty (T'.mir erased) (reader.val κs r)) × WT (reader.val κs r)

stored : {M : Type 1} {𝓤 : Ura M} (𝓛 : Logic 𝓤) → (κs : Lfts 1) (r : Reader) → Is (reader.row κs) r (reader.val κs r ∷ []) → Stored κs r
stored 𝓛 κs r is = ((LL.lawful (T.the_type (record { mir = erased; lft = κs.0 })) (T'.the_laws (record { mir = erased; lft = κs.0 })) 𝓛).typed r _ is).0

-- the lifetime's token
abbrev pub token : {M : Type 1} (𝓤 : Ura M) → Lfts 1 → Shares 1 → Item 𝓤
token 𝓤 κs qs = ‵ (flft κs.0 qs.0)

module _ {M : Type 1} {𝓤 : Ura M} (𝓛 : Logic 𝓤) {𝓜 : Model 𝓤 𝓛.H} (𝓡 : Running 𝓤 𝓛.H 𝓜) where
  -- the functions that are called
  open 𝓛 use {H}

  abbrev pub to_new : Wired 𝓡.env new-def.code → Known 𝓛 (Over 𝓛 𝓜 𝓡 𝓡.env).C new-def.name
  to_new p = known 𝓛 𝓜 𝓡 𝓡.env 1 (bytes ∷ []) reader (new.clauses 𝓛 𝓜.mem 𝓡.returns) new-def.name (𝓡.env new-def.name) refl (new-thm.met 𝓤 𝓛 𝓜 𝓡 p)

  abbrev pub to_number : Wired 𝓡.env number-def.code → Known 𝓛 (Over 𝓛 𝓜 𝓡 𝓡.env).C number-def.name
  to_number p = known 𝓛 𝓜 𝓡 𝓡.env 1 (reader ∷ []) (of_data numbered) (number-fn.clauses 𝓛 𝓜.mem 𝓡.returns) number-def.name (𝓡.env number-def.name) refl (number-thm.met 𝓤 𝓛 𝓜 𝓡 p)

  abbrev pub to_behind : Wired 𝓡.env behind-def.code → Known 𝓛 (Over 𝓛 𝓜 𝓡 𝓡.env).C behind-def.name
  to_behind p = known 𝓛 𝓜 𝓡 𝓡.env 0 (of_data numbered ∷ []) (of_data Types.usize) (behind.clauses 𝓛 𝓜.mem 𝓡.returns) behind-def.name (𝓡.env behind-def.name) refl (behind-thm.met 𝓤 𝓛 𝓜 𝓡 p)

  abbrev pub to_moved : Wired 𝓡.env moved-def.code → Known 𝓛 (Over 𝓛 𝓜 𝓡 𝓡.env).C moved-def.name
  to_moved p = known 𝓛 𝓜 𝓡 𝓡.env 1 (reader ∷ of_data Types.usize ∷ []) reader (moved.clauses 𝓛 𝓜.mem 𝓡.returns) moved-def.name (𝓡.env moved-def.name) refl (moved-thm.met 𝓤 𝓛 𝓜 𝓡 p)

  module _ {K : Type 0} {E : Env 𝓤 H} {q : Post 𝓤 H} {xs : List Operand} {d : Place} {rest : Body} {Γ : List (Item 𝓤)} where
    module _ (κs : Lfts 1) (qs : Shares 1) where
      pub starts : K → (s : Bor (List ℕ)) (p : Wired 𝓡.env new-def.code) → Opds K 𝓛 (asks (to_new p) κs qs (s, tt) tt ∷ Γ) E xs (bytes.val κs s ∷ [])
          → (Stored κs (reader_at s 0) → Seq K 𝓛 (token 𝓤 κs qs ∷ own_of 𝓤 κs reader (reader_at s 0) ∷ Γ) (lands (Over 𝓛 𝓜 𝓡 𝓡.env).C (Over 𝓛 𝓜 𝓡 𝓡.env).Λ E d (reader.val κs (reader_at s 0)) rest q))
          → Seq K 𝓛 (token 𝓤 κs qs ∷ own_of 𝓤 κs bytes s ∷ Γ) (runs (Over 𝓛 𝓜 𝓡 𝓡.env).C (Over 𝓛 𝓜 𝓡 𝓡.env).Λ E (seq (call new-def.name xs d) rest) q)
      starts t s p os k =
          carries t (Over 𝓛 𝓜 𝓡 𝓡.env) (to_new p) κs qs (s, tt) tt (id⊢ 𝓤 _) os (reader_at s 0) (λ r ws. id⊢ 𝓤 _) (λ is. move t (1 ∷ 0 ∷ []) $ k (stored 𝓛 κs (reader_at s 0) is))

      pub reads : K → (r : Reader) (p : Wired 𝓡.env number-def.code) → Opds K 𝓛 (asks (to_number p) κs qs (r, tt) tt ∷ own_of 𝓤 κs reader r ∷ Γ) E xs (reader.val κs r ∷ [])
          → (Is numbered.row (number_of r) (numbered.val (number_of r) ∷ []) → Typed numbered.row.mir (numbered.val (number_of r) ∷ [])
          → Seq K 𝓛 (token 𝓤 κs qs ∷ own_of 𝓤 κs reader r ∷ Γ) (lands (Over 𝓛 𝓜 𝓡 𝓡.env).C (Over 𝓛 𝓜 𝓡 𝓡.env).Λ E d (numbered.val (number_of r)) rest q))
          → Seq K 𝓛 (token 𝓤 κs qs ∷ own_of 𝓤 κs reader r ∷ Γ) (runs (Over 𝓛 𝓜 𝓡 𝓡.env).C (Over 𝓛 𝓜 𝓡 𝓡.env).Λ E (seq (call number-def.name xs d) rest) q)
      reads t r p os k =
          move t (1 ∷ []) $ use1 𝓛 (own_of 𝓤 κs reader r ⊛ own_of 𝓤 κs reader r) (reader_twice 𝓛 κs r) $ split t $ move t (2 ∷ 0 ∷ []) $
          carries t (Over 𝓛 𝓜 𝓡 𝓡.env) (to_number p) κs qs (r, tt) tt (id⊢ 𝓤 _) os (number_of r) (λ n ws. id⊢ 𝓤 _) (λ is. drop t $ k is ((numbered.lawful 𝓛).typed (number_of r) _ is))

      pub moves : K → (r : Reader) (i : ℕ) → i < 2 ^ 64 → (p : Wired 𝓡.env moved-def.code) → Opds K 𝓛 (asks (to_moved p) κs qs (r, (i, tt)) tt ∷ Γ) E xs (reader.val κs r ∷ vint w64 i ∷ [])
          → (Stored κs (reader_at r.bytes i) → Seq K 𝓛 (token 𝓤 κs qs ∷ own_of 𝓤 κs reader (reader_at r.bytes i) ∷ Γ) (lands (Over 𝓛 𝓜 𝓡 𝓡.env).C (Over 𝓛 𝓜 𝓡 𝓡.env).Λ E d (reader.val κs (reader_at r.bytes i)) rest q))
          → Seq K 𝓛 (token 𝓤 κs qs ∷ own_of 𝓤 κs reader r ∷ Γ) (runs (Over 𝓛 𝓜 𝓡 𝓡.env).C (Over 𝓛 𝓜 𝓡 𝓡.env).Λ E (seq (call moved-def.name xs d) rest) q)
      moves t r i fits p os k =
          owned t (Types.usize).row (Is (Types.usize).row) ((Types.usize).makes 𝓛) i _ (refl, fits) $ move t (1 ∷ 2 ∷ 0 ∷ []) $
          carries t (Over 𝓛 𝓜 𝓡 𝓡.env) (to_moved p) κs qs (r, (i, tt)) tt (id⊢ 𝓤 _) os (reader_at r.bytes i) (λ r' ws. id⊢ 𝓤 _) (λ is. move t (1 ∷ 0 ∷ []) $ k (stored 𝓛 κs (reader_at r.bytes i) is))

    pub goes_on : K → (n : Result Number Misread) → Is numbered.row n (numbered.val n ∷ []) → (p : Wired 𝓡.env behind-def.code) → Opds K 𝓛 (asks (to_behind p) tt tt (n, tt) tt ∷ Γ) E xs (numbered.val n ∷ [])
        → (behind_of n < 2 ^ 64 → Seq K 𝓛 Γ (lands (Over 𝓛 𝓜 𝓡 𝓡.env).C (Over 𝓛 𝓜 𝓡 𝓡.env).Λ E d (vint w64 (behind_of n)) rest q))
        → Seq K 𝓛 Γ (runs (Over 𝓛 𝓜 𝓡 𝓡.env).C (Over 𝓛 𝓜 𝓡 𝓡.env).Λ E (seq (call behind-def.name xs d) rest) q)
    goes_on t n here p os k =
        owned t numbered.row (Is numbered.row) (numbered.makes 𝓛) n _ here $
        carries t (Over 𝓛 𝓜 𝓡 𝓡.env) (to_behind p) tt tt (n, tt) tt (id⊢ 𝓤 _) os (behind_of n) (λ i ws. id⊢ 𝓤 _) (λ is. drop t $ k is.1)
