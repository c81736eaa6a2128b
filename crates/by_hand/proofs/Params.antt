-- What a thin function takes and gives: plain data, lent slices, plain data back. It says nothing of the crate.
--     Data             a type that owns only facts.       number w, truth, unit, struct T, enum T, array D n
--     Held n           a type that may hold a `&`, over n lifetimes: what a value of it owns is not made anew of its facts
--     Kind n           a parameter: data, a `&[T]` (with the laws by which it can be had twice), a `&mut [T]` (which the body passes on for good), a `Held` that goes, of a function of n lifetimes
--     thin n ks D      the `Ended` of a function of n lifetimes, the parameters ks and the result D: a generated `ended` is one by computation
--     facts, lens      of each parameter that is data its relation; of each `&mut [T]` that its last list is as long as the first
-- Rests on the kit's types and their laws (`denote`). Assumes nothing.
use mathlib.Core.Path.{◌≡◌, refl, sym, subst}
use Prim.Native.Nat.{ℕ}
use mathlib.Core.List.{List, [], ◌∷◌, map}
use lib.ListN.{length}
use seplogic.Ra.Ura.{Ura}
use mir.Syntax.{Width, named}
use mir.Val.{Val, vunit, vbool, vint}
use base.Fml.{ftrue}
use types.Logic.{Logic}
use contract.Lifetimes.{Lfts, Within, lft_at}
use denote.RattleType.{RattleType, RowLaws, Denots, Valss, flat}
use denote.Laws.{Is, Tells, Makes, Lawful, Spells, Tellss, Ises, Are, valss}
use denote.Exit.{yes, Exit, unchanged, Last, left, each_of}
use denote.Slice.{shr_slice_vals, mut_slice_vals, mut_slice_Tells, shr_slice_Tells}
use denote.Plain.{UInt, uint_Tells, uint_Lawful, uint_Makes, Boolean, bool_Tells, bool_Lawful, bool_Makes, Nothing, Nothing-Tells, Nothing-Lawful, Nothing-Makes}
use denote.Array.{Array, array_val, Array-Tells, Array-Lawful, Array-Makes}
use denote.Signature.{Slot, plain, mut_slice_of, shr_slice_of, types_at}
use denote.Struct.Declared as SD
use denote.Struct.Struct.{Plains}
use denote.Struct.Laws as LL
use denote.Enum.Declared as ED
use denote.Enum.Enum.{Plainss, Few}
use denote.Enum.Laws as EL
use denote.Triple.End.{Kepts, Fins}
use denote.Triple.Clauses.{Ended}
use denote.Triple.Walked.{Stay, stay_none, stay_none_slice, stay_dropped, gave_slice, Stays, fits_of}

-- DATA
pub record Data : Type 2 where
  pub row : RattleType
  pub val : row.Denot → Val
  pub tells : Tells row (Is row) (λ x. val x ∷ [])
  pub lawful : {M : Type 1} {𝓤 : Ura M} (𝓛 : Logic 𝓤) → Lawful 𝓛 row
  pub makes : {M : Type 1} {𝓤 : Ura M} (𝓛 : Logic 𝓤) → Makes 𝓛 row (Is row)
  pub still : row.exit yes ≡ unchanged

pub silent : (D : Data) (x : D.row.Denot) (f : Last (D.row.exit yes) x) → left (D.row.exit yes) x f ≡ ftrue
silent D x = subst (λ (e : Exit D.row.Denot). (f : Last e x) → left e x f ≡ ftrue) (sym D.still) (λ f. refl)

abbrev pub number : Width → Data
number w = record { row = UInt w; val = λ n. vint w n; tells = uint_Tells w; lawful = λ 𝓛. uint_Lawful 𝓛 w; makes = λ 𝓛. uint_Makes 𝓛 w; still = refl }

abbrev pub truth : Data
truth = record { row = Boolean; val = λ t. vbool t; tells = bool_Tells; lawful = λ 𝓛. bool_Lawful 𝓛; makes = λ 𝓛. bool_Makes 𝓛; still = refl }

abbrev pub unit : Data
unit = record { row = Nothing; val = λ _. vunit; tells = Nothing-Tells; lawful = λ 𝓛. Nothing-Lawful 𝓛; makes = λ 𝓛. Nothing-Makes 𝓛; still = refl }

abbrev pub struct : (T : SD.Declared) → LL.Laws T → LL.Copyables T.parts → Plains (SD.fields T) → Data
struct T L Cp P = record { row = SD.row T; val = LL.val T L; tells = LL.tells T L; lawful = λ 𝓛. LL.lawful T L 𝓛; makes = λ 𝓛. LL.makes T P 𝓛; still = LL.still T Cp yes }

abbrev pub enum : (T : ED.Declared) → Few (ED.shape T) → EL.Laws T → EL.Copyabless T.parts → Plainss (ED.variants T) → Data
enum T few L Cp P = record { row = ED.row T; val = EL.val T L; tells = EL.tells T L; lawful = λ 𝓛. EL.lawful T L 𝓛 few; makes = λ 𝓛. EL.makes T P 𝓛; still = EL.still T Cp yes }

abbrev pub array : Data → ℕ → Data
array D n = record {
  row = Array D.row n;
  val = λ xs. array_val (map D.val xs);
  tells = Array-Tells D.row (λ x. D.val x ∷ []) D.tells n;
  lawful = λ 𝓛. Array-Lawful 𝓛 D.row (D.lawful 𝓛) n;
  makes = λ 𝓛. Array-Makes 𝓛 D.row (D.makes 𝓛) n;
  still = λ i. each_of (D.still i);
}

-- TYPES THAT MAY HOLD A `&`
pub record Held (n : ℕ) : Type 2 where
  pub row : Lfts n → RattleType
  pub val : (κs : Lfts n) → (row κs).Denot → Val
  pub tells : (κs : Lfts n) → Tells (row κs) (Is (row κs)) (λ x. val κs x ∷ [])
  pub lawful : {M : Type 1} {𝓤 : Ura M} (𝓛 : Logic 𝓤) → (κs : Lfts n) → Lawful 𝓛 (row κs)
  pub still : (κs : Lfts n) → (row κs).exit yes ≡ unchanged

pub held_silent : {n : ℕ} (k : Held n) (κs : Lfts n) (x : (k.row κs).Denot) (f : Last ((k.row κs).exit yes) x) → left ((k.row κs).exit yes) x f ≡ ftrue
held_silent k κs x = subst (λ (e : Exit (k.row κs).Denot). (f : Last e x) → left e x f ≡ ftrue) (sym (k.still κs)) (λ f. refl)

-- PARAMETERS
pub data Kind (n : ℕ) : Type 2 where
  dat : Data → Kind n
  shr : (j : ℕ) → Within n j → (R : RattleType) → RowLaws R → Kind n
  own : (j : ℕ) → Within n j → RattleType → Kind n
  hld : Held n → Kind n

module _ {n : ℕ} where
  abbrev pub slot : Kind n → Slot n
  slot (dat D) = plain (λ _. D.row)
  slot (shr j ok R L) = shr_slice_of (j ∷ []) ok (plain (λ _. R))
  slot (own j ok R) = mut_slice_of (j ∷ []) ok (plain (λ _. R))
  slot (hld k) = plain k.row

  abbrev pub slots : List (Kind n) → List (Slot n)
  slots [] = []
  slots (k ∷ ks) = slot k ∷ slots ks

  abbrev pub kepts : (ks : List (Kind n)) → Kepts (slots ks)
  kepts [] = tt
  kepts (k ∷ ks) = (yes, kepts ks)

  abbrev pub stay : (k : Kind n) → Stay (slot k) yes
  stay (dat D) = stay_none (λ _. D.row) yes
  stay (shr j ok R L) = stay_none_slice (j ∷ []) ok (plain (λ _. R)) yes
  stay (own j ok R) = gave_slice (j ∷ []) ok (plain (λ _. R))
  stay (hld k) = stay_dropped (plain k.row) yes

  abbrev pub stays : (ks : List (Kind n)) → Stays (slots ks) (kepts ks)
  stays [] = tt
  stays (k ∷ ks) = (stay k, stays ks)

  module _ (κs : Lfts n) where
    abbrev spell : (k : Kind n) → ((slot k).row κs).Denot → List Val
    spell (dat D) x = D.val x ∷ []
    spell (shr j ok R L) x = shr_slice_vals x
    spell (own j ok R) x = mut_slice_vals x
    spell (hld k) x = k.val κs x ∷ []

    abbrev pub spells : (ks : List (Kind n)) → Spells (types_at (slots ks) κs)
    spells [] = tt
    spells (k ∷ ks) = (spell k, spells ks)

    tell : (k : Kind n) → Tells ((slot k).row κs) (Is ((slot k).row κs)) (spell k)
    tell (dat D) = D.tells
    tell (shr j ok R L) = shr_slice_Tells (named j) (lft_at n j ok κs) R
    tell (own j ok R) = mut_slice_Tells (named j) (lft_at n j ok κs) R
    tell (hld k) = k.tells κs

    pub tells_all : (ks : List (Kind n)) → Tellss (types_at (slots ks) κs) (Ises (types_at (slots ks) κs)) (spells ks)
    tells_all [] = tt
    tells_all (k ∷ ks) = (tell k, tells_all ks)

    abbrev pub Denoted : List (Kind n) → Type 0
    Denoted ks = Denots (types_at (slots ks) κs)

    -- the machine values
    abbrev pub vals : (ks : List (Kind n)) → Denoted ks → Valss (types_at (slots ks) κs)
    vals ks a = valss (types_at (slots ks) κs) (spells ks) a

    abbrev pub passed : (ks : List (Kind n)) → Denoted ks → List Val
    passed ks a = flat (types_at (slots ks) κs) (vals ks a)

    abbrev pub Related : (ks : List (Kind n)) → Denoted ks → Type 0
    Related ks a = Are (types_at (slots ks) κs) (Ises (types_at (slots ks) κs)) a (vals ks a)

    abbrev pub Ends : (ks : List (Kind n)) → Denoted ks → Type 0
    Ends ks a = Fins κs (slots ks) (kepts ks) a

    abbrev pub facts : (ks : List (Kind n)) → Denoted ks → Type 0
    facts [] a = Unit {0}
    facts (dat D ∷ ks) a = Is D.row a.0 (D.val a.0 ∷ []) × facts ks a.1
    facts (shr j ok R L ∷ ks) a = facts ks a.1
    facts (own j ok R ∷ ks) a = facts ks a.1
    facts (hld k ∷ ks) a = facts ks a.1

    pub related_facts : (ks : List (Kind n)) (a : Denoted ks) → Related ks a → facts ks a
    related_facts [] a g = tt
    related_facts (dat D ∷ ks) a g = (g.0, related_facts ks a.1 g.1)
    related_facts (shr j ok R L ∷ ks) a g = related_facts ks a.1 g.1
    related_facts (own j ok R ∷ ks) a g = related_facts ks a.1 g.1
    related_facts (hld k ∷ ks) a g = related_facts ks a.1 g.1

    abbrev pub lens : (ks : List (Kind n)) (a : Denoted ks) → Ends ks a → Type 0
    lens [] a ws = Unit {0}
    lens (dat D ∷ ks) a ws = lens ks a.1 ws.1
    lens (shr j ok R L ∷ ks) a ws = lens ks a.1 ws.1
    lens (own j ok R ∷ ks) a ws = (length ws.0 ≡ length a.0.now) × lens ks a.1 ws.1
    lens (hld k ∷ ks) a ws = lens ks a.1 ws.1

    pub fit : (ks : List (Kind n)) (a : Denoted ks) (ws : Ends ks a) → lens ks a ws → fits_of κs (slots ks) (kepts ks) (stays ks) a ws
    fit [] a ws l = tt
    fit (dat D ∷ ks) a ws l = (tt, fit ks a.1 ws.1 l)
    fit (shr j ok R L ∷ ks) a ws l = (tt, fit ks a.1 ws.1 l)
    fit (own j ok R ∷ ks) a ws l = (l.0, fit ks a.1 ws.1 l.1)
    fit (hld k ∷ ks) a ws l = (tt, fit ks a.1 ws.1 l)

abbrev pub thin : (n : ℕ) → List (Kind n) → Data → Ended
thin n ks D = record { signature = record { lifetimes = n; outlives = []; params = slots ks; result = plain (λ _. D.row) }; kept = kepts ks }
