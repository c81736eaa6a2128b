-- From the walk of a thin function to its contract, and the contract as a caller's walk has it. It says nothing of the crate.
--     tokens, refs, lefts              the lifetimes' tokens; what the references and each `Held` own at entry; what is left of them at exit, where of each `&mut [T]` its last list is said, with its borrow (`closed`)
--     Walk             what the author of a walk proves.        solved        takes it to the function's statement
--     Callee, callee   a function that meets its contract
-- Rests on `Params` and on the kit's way from a walk to a contract (`denote.Triple`). Assumes `Logic`.
use mathlib.Core.Path.{◌≡◌}
use Prim.Native.Nat.{ℕ, zero, suc}
use mathlib.Core.List.{List, [], ◌∷◌, ◌++◌}
use seplogic.Ra.Ura.{Ura}
use mir.Syntax.{Callee as Name, Fn, named}
use mir.Val.{Val}
use base.Logic.{SProp, ent, sep, emp, id⊢, via, comm∗, assoc', mono∗, mono_l, mono_r, snd∗, emp∗}
use lib.ListN.{length}
use base.Fml.{Lft, Fml, fsep, flft, fbor}
use types.SemTy.{Body, Arr}
use types.Hole.{Holey}
use denote.Ref.{MutBor}
use denote.Memory.{mem}
use prog.Wp.{Calls, WpFn, Tables, Closed}
use prog.Model.{Model}
use prog.Routine.{Routine, Env as Routines}
use contract.Running.{Running, tables, tables_of}
use types.Logic.{Logic, sem}
use contract.Lifetimes.{Lfts, Shares, lft_at, toks}
use sound.WpLaws.{WpFn-mono}
use types.Kit.{Item, ‵, raw, ◌⊛◌, mean, ⋆, pop, push, ⊢++, ++⊢, prop, Seq, Go, ◌$◌, ◌∵◌, !, qed, move, use0, use1, split, join, suffices, frame, done}
use denote.RattleType.{RattleType, owns, mirs}
use denote.Laws.{Typed, Lawfuls, all_Typed, Is, Lawful}
use denote.Exit.{yes}
use denote.Slice.{MutSlice, ShrSlice, finally, shr_slice_vals, mut_slice_vals, mut_slice_Lawful, shr_slice_Lawful, shr_slice_copy}
use denote.Signature.{plain, types_at}
use denote.Triple.Spec.{triple_of, Meets}
use denote.Triple.Statement.{Contract, Triple}
use denote.Triple.Table.{entered, cited}
use denote.Triple.Clauses.{Clauses, at_exit, closing}
use denote.Triple.Walked.{has_of, walk_of, ends_at, walked, Goes, Goes-none, Goes-none_slice, Goes-gave_slice, Goes-Silent, stay_dropped, AllGo, walk_Meets}
use Rattle.by_hand.proofs.Params.{Data, silent, held_silent, Kind, slot, slots, kepts, stay, stays, spells, tells_all, Denoted, vals, passed, Related, Ends, facts, related_facts, lens, fit, thin, dat, shr, own, hld}

-- WHAT IS IN THE CONTEXT
-- a `&mut [T]` that is given up, at its last list: its ghost name's last value, and its borrow, closed
abbrev pub closed : (R : RattleType) → Lft → MutBor (List R.Denot) → List R.Denot → Fml
closed R κ x ys = fsep (finally R x.ghost_name ys) (fbor κ (Body (Arr (Holey (mem R)) (length x.now)) x.ref_ptr.0 x.ref_ptr.1 x.ghost_name))

module _ {M : Type 1} (𝓤 : Ura M) where
  abbrev pub tokens : (n : ℕ) → Lfts n → Shares n → List (Item 𝓤)
  tokens zero κs qs = []
  tokens (suc n) κs qs = ‵ (flft κs.0 qs.0) ∷ tokens n κs.1 qs.1

  module _ {n : ℕ} (κs : Lfts n) where
    abbrev pub refs : (ks : List (Kind n)) → Denoted κs ks → List (Item 𝓤)
    refs [] a = []
    refs (dat D ∷ ks) a = refs ks a.1
    refs (shr j ok R L ∷ ks) a = ‵ ((ShrSlice (named j) (lft_at n j ok κs) R).own_val a.0 (shr_slice_vals a.0)) ∷ refs ks a.1
    refs (own j ok R ∷ ks) a = ‵ ((MutSlice (named j) (lft_at n j ok κs) R).own_val a.0 (mut_slice_vals a.0)) ∷ refs ks a.1
    refs (hld k ∷ ks) a = ‵ ((k.row κs).own_val a.0 (k.val κs a.0 ∷ [])) ∷ refs ks a.1

    abbrev pub keeps : (ks : List (Kind n)) → Denoted κs ks → List (Item 𝓤)
    keeps [] a = []
    keeps (dat D ∷ ks) a = keeps ks a.1
    keeps (shr j ok R L ∷ ks) a = ‵ ((ShrSlice (named j) (lft_at n j ok κs) R).own_val a.0 (shr_slice_vals a.0)) ∷ keeps ks a.1
    keeps (own j ok R ∷ ks) a = keeps ks a.1
    keeps (hld k ∷ ks) a = keeps ks a.1

    abbrev pub lefts : (ks : List (Kind n)) (a : Denoted κs ks) → Ends κs ks a → List (Item 𝓤)
    lefts [] a ws = []
    lefts (dat D ∷ ks) a ws = lefts ks a.1 ws.1
    lefts (shr j ok R L ∷ ks) a ws = ‵ ((ShrSlice (named j) (lft_at n j ok κs) R).own_val a.0 (shr_slice_vals a.0)) ∷ lefts ks a.1 ws.1
    lefts (own j ok R ∷ ks) a ws = ‵ (closed R (lft_at n j ok κs) a.0 ws.0) ∷ lefts ks a.1 ws.1
    lefts (hld k ∷ ks) a ws = lefts ks a.1 ws.1

module _ {M : Type 1} {𝓤 : Ura M} (𝓛 : Logic 𝓤) where
  open 𝓛 use {H}

  abbrev St : List (Item 𝓤) → SProp 𝓤
  St Γ = ⋆ 𝓛 Γ

  pub cons_in : (i : Item 𝓤) (Γ : List (Item 𝓤)) {P : SProp 𝓤} → ent 𝓤 P (St Γ) → ent 𝓤 (sep 𝓤 (mean 𝓛 i) P) (St (i ∷ Γ))
  cons_in i Γ h = via 𝓤 _ (mono_r 𝓤 (mean 𝓛 i) h) (push 𝓛 i Γ)

  pub cons_out : (i : Item 𝓤) (Γ : List (Item 𝓤)) {P : SProp 𝓤} → ent 𝓤 (St Γ) P → ent 𝓤 (St (i ∷ Γ)) (sep 𝓤 (mean 𝓛 i) P)
  cons_out i Γ h = via 𝓤 _ (pop 𝓛 i Γ) (mono_r 𝓤 (mean 𝓛 i) h)

  made : (P : SProp 𝓤) {Q R : SProp 𝓤} → ent 𝓤 (emp 𝓤) P → ent 𝓤 Q R → ent 𝓤 Q (sep 𝓤 P R)
  made P {Q} h k = via 𝓤 (sep 𝓤 (emp 𝓤) Q) (emp∗ 𝓤 Q) (mono∗ 𝓤 h k)

  -- an entry of which nothing is kept
  goes_by : (X : Fml) (Γ Δ : List (Item 𝓤)) → ent 𝓤 (St Γ) (sep 𝓤 (St Γ) (St Δ)) → ent 𝓤 (St (‵ X ∷ Γ)) (sep 𝓤 (St (‵ X ∷ Γ)) (St Δ))
  goes_by X Γ Δ h = via 𝓤 _ (cons_out (‵ X) Γ h) (via 𝓤 _ (assoc' 𝓤 (sem 𝓛 X) (St Γ) (St Δ)) (mono_l 𝓤 (St Δ) (push 𝓛 (‵ X) Γ)))

  pub toks_out : (n : ℕ) (κs : Lfts n) (qs : Shares n) → ent 𝓤 (toks 𝓛 n κs qs) (St (tokens 𝓤 n κs qs))
  toks_out zero κs qs = id⊢ 𝓤 (emp 𝓤)
  toks_out (suc n) κs qs = cons_in (‵ (flft κs.0 qs.0)) (tokens 𝓤 n κs.1 qs.1) (toks_out n κs.1 qs.1)

  pub toks_in : (n : ℕ) (κs : Lfts n) (qs : Shares n) → ent 𝓤 (St (tokens 𝓤 n κs qs)) (toks 𝓛 n κs qs)
  toks_in zero κs qs = id⊢ 𝓤 (emp 𝓤)
  toks_in (suc n) κs qs = cons_out (‵ (flft κs.0 qs.0)) (tokens 𝓤 n κs.1 qs.1) (toks_in n κs.1 qs.1)

  module _ {n : ℕ} (κs : Lfts n) where
    owns_out : (ks : List (Kind n)) (a : Denoted κs ks) → ent 𝓤 (sem 𝓛 (owns (types_at (slots ks) κs) a (vals κs ks a))) (St (refs 𝓤 κs ks a))
    owns_out [] a = id⊢ 𝓤 (emp 𝓤)
    owns_out (dat D ∷ ks) a = via 𝓤 _ (snd∗ 𝓤 (sem 𝓛 (D.row.own_val a.0 (D.val a.0 ∷ []))) (sem 𝓛 (owns (types_at (slots ks) κs) a.1 (vals κs ks a.1)))) (owns_out ks a.1)
    owns_out (shr j ok R L ∷ ks) a = cons_in (‵ ((ShrSlice (named j) (lft_at n j ok κs) R).own_val a.0 (shr_slice_vals a.0))) (refs 𝓤 κs ks a.1) (owns_out ks a.1)
    owns_out (own j ok R ∷ ks) a = cons_in (‵ ((MutSlice (named j) (lft_at n j ok κs) R).own_val a.0 (mut_slice_vals a.0))) (refs 𝓤 κs ks a.1) (owns_out ks a.1)
    owns_out (hld k ∷ ks) a = cons_in (‵ ((k.row κs).own_val a.0 (k.val κs a.0 ∷ []))) (refs 𝓤 κs ks a.1) (owns_out ks a.1)

    pub owns_in : (ks : List (Kind n)) (a : Denoted κs ks) → facts κs ks a → ent 𝓤 (St (refs 𝓤 κs ks a)) (sem 𝓛 (owns (types_at (slots ks) κs) a (vals κs ks a)))
    owns_in [] a f = id⊢ 𝓤 (emp 𝓤)
    owns_in (dat D ∷ ks) a f = made _ (D.makes 𝓛 a.0 (D.val a.0 ∷ []) f.0) (owns_in ks a.1 f.1)
    owns_in (shr j ok R L ∷ ks) a f = cons_out (‵ ((ShrSlice (named j) (lft_at n j ok κs) R).own_val a.0 (shr_slice_vals a.0))) (refs 𝓤 κs ks a.1) (owns_in ks a.1 f)
    owns_in (own j ok R ∷ ks) a f = cons_out (‵ ((MutSlice (named j) (lft_at n j ok κs) R).own_val a.0 (mut_slice_vals a.0))) (refs 𝓤 κs ks a.1) (owns_in ks a.1 f)
    owns_in (hld k ∷ ks) a f = cons_out (‵ ((k.row κs).own_val a.0 (k.val κs a.0 ∷ []))) (refs 𝓤 κs ks a.1) (owns_in ks a.1 f)

    -- what can be copied is kept
    pub refs_keep : (ks : List (Kind n)) (a : Denoted κs ks) → ent 𝓤 (St (refs 𝓤 κs ks a)) (sep 𝓤 (St (refs 𝓤 κs ks a)) (St (keeps 𝓤 κs ks a)))
    refs_keep [] a = emp∗ 𝓤 (emp 𝓤)
    refs_keep (dat D ∷ ks) a = refs_keep ks a.1
    refs_keep (shr j ok R L ∷ ks) a =
        let X : Fml = (ShrSlice (named j) (lft_at n j ok κs) R).own_val a.0 (shr_slice_vals a.0) in let Y = St (refs 𝓤 κs ks a.1) in let Z = St (keeps 𝓤 κs ks a.1) in
        via 𝓤 _ (cons_out (‵ X) (refs 𝓤 κs ks a.1) (refs_keep ks a.1))
        (via 𝓤 (sep 𝓤 (sep 𝓤 (sem 𝓛 X) Y) (sep 𝓤 (sem 𝓛 X) Z))
        (qed 𝓛 (‵ X ∷ (raw Y ⊛ raw Z) ∷ []) ∵ use1 𝓛 (‵ X ⊛ ‵ X) ((shr_slice_copy 𝓛 (named j) (lft_at n j ok κs) R L).twice a.0 (shr_slice_vals a.0)) $ split ! $ move ! (2 ∷ []) $ split ! $ move ! (2 ∷ 0 ∷ []) $ join ! $ frame ! $ move ! (1 ∷ 0 ∷ []) $ done !)
        (mono∗ 𝓤 (push 𝓛 (‵ X) (refs 𝓤 κs ks a.1)) (push 𝓛 (‵ X) (keeps 𝓤 κs ks a.1))))
    refs_keep (own j ok R ∷ ks) a = goes_by ((MutSlice (named j) (lft_at n j ok κs) R).own_val a.0 (mut_slice_vals a.0)) (refs 𝓤 κs ks a.1) (keeps 𝓤 κs ks a.1) (refs_keep ks a.1)
    refs_keep (hld k ∷ ks) a = goes_by ((k.row κs).own_val a.0 (k.val κs a.0 ∷ [])) (refs 𝓤 κs ks a.1) (keeps 𝓤 κs ks a.1) (refs_keep ks a.1)

    has_in : (ks : List (Kind n)) (a : Denoted κs ks) (ws : Ends κs ks a) → facts κs ks a → ent 𝓤 (St (lefts 𝓤 κs ks a ws)) (sem 𝓛 (has_of κs (slots ks) (kepts ks) (stays ks) a ws (vals κs ks a)))
    has_in [] a ws f = id⊢ 𝓤 (emp 𝓤)
    has_in (dat D ∷ ks) a ws f = made _ (D.makes 𝓛 a.0 (D.val a.0 ∷ []) f.0) (has_in ks a.1 ws.1 f.1)
    has_in (shr j ok R L ∷ ks) a ws f = cons_out (‵ ((ShrSlice (named j) (lft_at n j ok κs) R).own_val a.0 (shr_slice_vals a.0))) (lefts 𝓤 κs ks a.1 ws.1) (has_in ks a.1 ws.1 f)
    has_in (own j ok R ∷ ks) a ws f = cons_out (‵ (closed R (lft_at n j ok κs) a.0 ws.0)) (lefts 𝓤 κs ks a.1 ws.1) (has_in ks a.1 ws.1 f)
    has_in (hld k ∷ ks) a ws f = made (emp 𝓤) (id⊢ 𝓤 (emp 𝓤)) (has_in ks a.1 ws.1 f)

  law : {n : ℕ} (κs : Lfts n) (k : Kind n) → Lawful 𝓛 ((slot k).row κs)
  law κs (dat D) = D.lawful 𝓛
  law {n} κs (shr j ok R L) = shr_slice_Lawful 𝓛 (named j) (lft_at n j ok κs) R
  law {n} κs (own j ok R) = mut_slice_Lawful 𝓛 (named j) (lft_at n j ok κs) R
  law κs (hld k) = k.lawful 𝓛 κs

  laws : {n : ℕ} (κs : Lfts n) (ks : List (Kind n)) → Lawfuls 𝓛 (types_at (slots ks) κs)
  laws κs [] = tt
  laws κs (k ∷ ks) = (law κs k, laws κs ks)

  -- the arguments are of their types
  typed : {n : ℕ} (κs : Lfts n) (ks : List (Kind n)) (a : Denoted κs ks) → Related κs ks a → Typed (mirs (types_at (slots ks) κs)) (passed κs ks a)
  typed κs ks a are = all_Typed 𝓛 (types_at (slots ks) κs) (laws κs ks) a (vals κs ks a) are

  goes : {n : ℕ} (k : Kind n) → Goes 𝓛 n (slot k) yes (stay k)
  goes {n} (dat D) = Goes-none 𝓛 n (λ _. D.row) yes (λ κs x f. silent D x f)
  goes {n} (shr j ok R L) = Goes-none_slice 𝓛 n (j ∷ []) ok (plain (λ _. R)) yes
  goes {n} (own j ok R) = Goes-gave_slice 𝓛 n j ok (plain (λ _. R))
  goes {n} (hld k) = Goes-Silent 𝓛 n (plain k.row) yes (stay_dropped (plain k.row) yes) (held_silent k)

  all_go : {n : ℕ} (ks : List (Kind n)) → AllGo 𝓛 n (slots ks) (kepts ks) (stays ks)
  all_go [] = tt
  all_go (k ∷ ks) = (goes k, all_go ks)

  module _ (n : ℕ) (ks : List (Kind n)) (D : Data) (c : Clauses 𝓤 (thin n ks D)) where
    -- the walk's last assertion
    abbrev exit_at : (κs : Lfts n) (qs : Shares n) (a : Denoted κs ks) → (c κs a).ghost → Val → SProp 𝓤
    exit_at κs qs a g = (walk_of 𝓛 (thin n ks D) (stays ks) c).post ((κs, qs, tt, a, vals κs ks a), g)

    ends : (κs : Lfts n) (qs : Shares n) (a : Denoted κs ks) (g : (c κs a).ghost) (r : D.row.Denot) (ws : Ends κs ks a) → facts κs ks a → Is D.row r (D.val r ∷ []) → lens κs ks a ws
        → ent 𝓤 (emp 𝓤) ((c κs a).ensures g r (at_exit (thin n ks D) κs a ws)) → ent 𝓤 (St (tokens 𝓤 n κs qs ++ lefts 𝓤 κs ks a ws)) (exit_at κs qs a g (D.val r))
    ends κs qs a g r ws f is l said =
        via 𝓤 _ (⊢++ 𝓛 (tokens 𝓤 n κs qs) (lefts 𝓤 κs ks a ws)) (via 𝓤 _ (mono∗ 𝓤 (toks_in n κs qs) (has_in κs ks a ws f))
        (qed 𝓛 (raw (toks 𝓛 n κs qs) ∷ ‵ (has_of κs (slots ks) (kepts ks) (stays ks) a ws (vals κs ks a)) ∷ []) ∵
        suffices ! _ (ends_at 𝓛 (thin n ks D) (stays ks) c ((κs, qs, tt, a, vals κs ks a), g) (D.val r) r ws (fit κs ks a ws l)) $
        use0 𝓛 (‵ (D.row.own_val r (D.val r ∷ []))) (D.makes 𝓛 r (D.val r ∷ []) is) $ move ! (2 ∷ 0 ∷ []) $ join ! $ move ! (1 ∷ 0 ∷ []) $ join ! $
        use0 𝓛 (raw ((c κs a).ensures g r (at_exit (thin n ks D) κs a ws))) said $ move ! (1 ∷ []) $ frame ! $ done !))

    -- a walk of fn: from the relations of the arguments, and that they are of their types, to any P that the exit shows
    abbrev pub Walk : Tables 𝓤 H → Fn → Type 2
    Walk 𝓣 fn = (κs : Lfts n) (qs : Shares n) (a : Denoted κs ks) (g : (c κs a).ghost) → Related κs ks a → Typed (mirs (types_at (slots ks) κs)) (passed κs ks a) → (P : Val → SProp 𝓤)
        → ((r : D.row.Denot) (ws : Ends κs ks a) → Is D.row r (D.val r ∷ []) → lens κs ks a ws → ent 𝓤 (emp 𝓤) ((c κs a).ensures g r (at_exit (thin n ks D) κs a ws)) → ent 𝓤 (St (tokens 𝓤 n κs qs ++ lefts 𝓤 κs ks a ws)) (P (D.val r)))
        → Seq (Go {0}) 𝓛 (raw ((c κs a).requires g) ∷ tokens 𝓤 n κs qs ++ refs 𝓤 κs ks a) (prop (WpFn 𝓤 H 𝓣.C 𝓣.Λ fn (passed κs ks a) P))

    meets : (𝓣 : Tables 𝓤 H) (fn : Fn) → Walk 𝓣 fn → Meets 𝓛 (thin n ks D).signature (WpFn 𝓤 H 𝓣.C 𝓣.Λ fn) (closing 𝓛 (thin n ks D) c)
    meets 𝓣 fn walk =
        walk_Meets 𝓛 (thin n ks D) (stays ks) (all_go ks) c (WpFn 𝓤 H 𝓣.C 𝓣.Λ fn) (WpFn-mono 𝓤 H 𝓛.laws 𝓣 fn)
        (walked 𝓛 (thin n ks D) (stays ks) c (WpFn 𝓤 H 𝓣.C 𝓣.Λ fn) (λ κs. spells κs ks) (λ κs. tells_all κs ks) (λ κs qs bounds a g are.
        via 𝓤 _ (mono_l 𝓤 ((c κs a).requires g) (via 𝓤 _ (mono∗ 𝓤 (toks_out n κs qs) (owns_out κs ks a)) (++⊢ 𝓛 (tokens 𝓤 n κs qs) (refs 𝓤 κs ks a))))
        (via 𝓤 _ (comm∗ 𝓤 (St (tokens 𝓤 n κs qs ++ refs 𝓤 κs ks a)) ((c κs a).requires g)) (via 𝓤 _ (push 𝓛 (raw ((c κs a).requires g)) (tokens 𝓤 n κs qs ++ refs 𝓤 κs ks a))
        (walk κs qs a g are (typed κs ks a are) (exit_at κs qs a g) (λ r ws is l said. ends κs qs a g r ws (related_facts κs ks a are) is l said)).prf))))

-- A FUNCTION THAT MEETS ITS CONTRACT, as a walk calls it
pub record Callee {M : Type 1} {𝓤 : Ura M} (𝓛 : Logic 𝓤) (C : Calls 𝓤 𝓛.H) (f : Name) : Type 2 where
  pub n : ℕ
  pub ks : List (Kind n)
  pub result : Data
  pub clauses : Clauses 𝓤 (thin n ks result)
  pub met : Triple 𝓤 (C f) (triple_of 𝓛 (thin n ks result).signature (closing 𝓛 (thin n ks result) clauses))

module _ {M : Type 1} {𝓤 : Ura M} (𝓛 : Logic 𝓤) (𝓜 : Model 𝓤 𝓛.H) (𝓡 : Running 𝓤 𝓛.H 𝓜) (γ : Routines) where
  -- the tables at which a function's MIR is walked
  open 𝓛 use {H}

  abbrev pub Over : Tables 𝓤 H
  Over = tables_of 𝓤 H 𝓜 (tables 𝓤 H 𝓜 𝓡 γ)

  module _ (n : ℕ) (ks : List (Kind n)) (D : Data) (c : Clauses 𝓤 (thin n ks D)) (k : Name) where
    abbrev Says : Contract 𝓤
    Says = triple_of 𝓛 (thin n ks D).signature (closing 𝓛 (thin n ks D) c)

    pub met_at : (r : Routine) → γ k ≡ r → Triple 𝓤 (𝓡.run r) Says → Triple 𝓤 (Over.C k) Says
    unfolding tables_of
    met_at r p t = cited 𝓤 H Says 𝓜 𝓡 γ k r p t

    abbrev pub callee : (r : Routine) → γ k ≡ r → Triple 𝓤 (𝓡.run r) Says → Callee 𝓛 Over.C k
    callee r p t = record { n = n; ks = ks; result = D; clauses = c; met = met_at r p t }

    -- from the walk of a function's MIR to its contract
    pub solved : (fn : Fn) → Closed 𝓤 H (tables 𝓤 H 𝓜 𝓡 γ).C (tables 𝓤 H 𝓜 𝓡 γ).Λ k fn
        → Walk 𝓛 n ks D c Over fn
        → Triple 𝓤 (𝓡.run (γ k)) Says
    unfolding tables_of
    solved fn closed walk = entered 𝓤 H Says (tables 𝓤 H 𝓜 𝓡 γ).C (tables 𝓤 H 𝓜 𝓡 γ).Λ k fn closed (meets 𝓛 n ks D c Over fn walk)
