-- Functions over types that may hold a `&`, as a struct of a lent slice and a place in it: what a value of such a type owns can be had twice, and is not made
-- anew of its facts, so it stands in the context as it is. It says nothing of the crate.
--     Held n           such a type, over n lifetimes.        of_data D, slice j R, struct j T
--     over n ks k      the `Ended` of a function of n lifetimes, the parameters ks and the result k: a generated `ended` is one by computation
--     Walked           what the author of a walk proves: at exit nothing is left of the parameters.        proved       takes it to the function's statement
--     Known, known     a function that meets its contract
--     carries          a call of it, whose result the contract says: at the head of the context stand its tokens, and then what its parameters own
-- Rests on `Params`, `Thin`, `Steps` and on the kit's way from a walk to a contract (`denote.Triple`). Assumes `Logic`.
use mathlib.Core.Path.{◌≡◌, refl, ap, subst}
use Prim.Native.Nat.{ℕ}
use mathlib.Core.List.{List, [], ◌∷◌, ◌++◌}
use lib.ListN.{length}
use seplogic.Ra.Ura.{Ura}
use mir.Syntax.{Callee as Name, Fn, Opd as Operand, Place, Body, seq, call, named}
use mir.Val.{Val}
use base.Logic.{SProp, ent, sep, emp, id⊢, via, comm∗, mono∗, mono_l, mono_r, emp∗}
use prog.Wp.{Env, Calls, WpFn, Tables, Closed}
use prog.Model.{Model}
use prog.Routine.{Routine, Env as Routines}
use contract.Running.{Running, tables, tables_of}
use contract.Monad.{fact}
use contract.Lifetimes.{Lfts, Shares, Within, lft_at, toks}
use types.Logic.{Logic, sem}
use sound.WpLaws.{fm_of, WpFn-mono}
use types.Kit.{Item, ‵, raw, ◌⊛◌, some, later, ⋆, push, ⊢++, ++⊢, prop, Post, runs, lands, Seq, Go, ◌$◌, ◌∵◌, !, qed, move, drop, use0, use1, split, join, pick, rewrite, regoal, await, suffices, frame, done}
use types.Run.{Opds}
use denote.RattleType.{RattleType, Denots, Valss, flat, owns, mirs}
use denote.Laws.{Is, Lawfuls, Typed, all_Typed, Spells, Tellss, Ises, Are, valss, shows}
use denote.Exit.{yes}
use denote.Ref.{NamedLft}
use denote.Slice.{ShrSlice, slice_val, shr_slice_Tells, shr_slice_Lawful}
use denote.Signature.{Slot, plain, named_lft, types_at}
use denote.Steps.{heard, peeks, only}
use denote.Struct.Declared as SD
use denote.Struct.Laws as LL
use denote.Triple.Entry.{on_entry}
use denote.Triple.End.{Kepts, Fins, lasts_of}
use denote.Triple.Spec.{triple_of, Meets}
use denote.Triple.Statement.{Contract, Triple}
use denote.Triple.Table.{entered, cited}
use denote.Triple.Call.{calls_at}
use denote.Triple.Clauses.{Ended, Clauses, at_exit, closing}
use denote.Triple.Walked.{Stays, stay_dropped, fits_of, has_of, walk_of, ends_at, walked, AllGo, Goes-Silent, walk_Meets}
use Rattle.by_hand.proofs.Params.{Data, held_silent}
pub use Rattle.by_hand.proofs.Params.{Held}
use Rattle.by_hand.proofs.Thin.{tokens, cons_in, cons_out, toks_out, toks_in, Over}
use Rattle.by_hand.proofs.Steps.{to_one, of_next}

-- TYPES
module _ {n : ℕ} where
  abbrev pub of_data : Data → Held n
  of_data D = record { row = λ κs. D.row; val = λ κs. D.val; tells = λ κs. D.tells; lawful = λ 𝓛 κs. D.lawful 𝓛; still = λ κs. D.still }

  abbrev pub slice : (j : ℕ) → Within n j → RattleType → Held n
  slice j ok R = record { row = λ κs. ShrSlice (named j) (lft_at n j ok κs) R; val = λ κs s. slice_val s.ref_ptr (length s.now); tells = λ κs. shr_slice_Tells (named j) (lft_at n j ok κs) R; lawful = λ 𝓛 κs. shr_slice_Lawful 𝓛 (named j) (lft_at n j ok κs) R; still = λ κs. refl }

  abbrev pub struct : (j : ℕ) (ok : Within n j) (T : NamedLft → SD.Declared) (L : (α : NamedLft) → LL.Laws (T α)) → ((α : NamedLft) → LL.Copyables (T α).parts) → Held n
  struct j ok T L Cp = record {
    row = λ κs. SD.row (T (named_lft n j ok κs));
    val = λ κs. LL.val (T (named_lft n j ok κs)) (L (named_lft n j ok κs));
    tells = λ κs. LL.tells (T (named_lft n j ok κs)) (L (named_lft n j ok κs));
    lawful = λ 𝓛 κs. LL.lawful (T (named_lft n j ok κs)) (L (named_lft n j ok κs)) 𝓛;
    still = λ κs. LL.still (T (named_lft n j ok κs)) (Cp (named_lft n j ok κs)) yes;
  }

  abbrev slots : List (Held n) → List (Slot n)
  slots [] = []
  slots (k ∷ ks) = plain k.row ∷ slots ks

  abbrev kepts : (ks : List (Held n)) → Kepts (slots ks)
  kepts [] = tt
  kepts (k ∷ ks) = (yes, kepts ks)

  abbrev dropped : (ks : List (Held n)) → Stays (slots ks) (kepts ks)
  dropped [] = tt
  dropped (k ∷ ks) = (stay_dropped (plain k.row) yes, dropped ks)

  module _ (κs : Lfts n) where
    abbrev spells : (ks : List (Held n)) → Spells (types_at (slots ks) κs)
    spells [] = tt
    spells (k ∷ ks) = ((λ x. k.val κs x ∷ []), spells ks)

    tells_all : (ks : List (Held n)) → Tellss (types_at (slots ks) κs) (Ises (types_at (slots ks) κs)) (spells ks)
    tells_all [] = tt
    tells_all (k ∷ ks) = (k.tells κs, tells_all ks)

    abbrev pub Denoted : List (Held n) → Type 0
    Denoted ks = Denots (types_at (slots ks) κs)

    abbrev pub vals : (ks : List (Held n)) → Denoted ks → Valss (types_at (slots ks) κs)
    vals ks a = valss (types_at (slots ks) κs) (spells ks) a

    abbrev pub passed : (ks : List (Held n)) → Denoted ks → List Val
    passed ks a = flat (types_at (slots ks) κs) (vals ks a)

    abbrev pub Related : (ks : List (Held n)) → Denoted ks → Type 0
    Related ks a = Are (types_at (slots ks) κs) (Ises (types_at (slots ks) κs)) a (vals ks a)

    abbrev pub Ends : (ks : List (Held n)) → Denoted ks → Type 0
    Ends ks a = Fins κs (slots ks) (kepts ks) a

    fits : (ks : List (Held n)) (a : Denoted ks) (ws : Ends ks a) → fits_of κs (slots ks) (kepts ks) (dropped ks) a ws
    fits [] a ws = tt
    fits (k ∷ ks) a ws = (tt, fits ks a.1 ws.1)

abbrev pub over : (n : ℕ) → List (Held n) → Held n → Ended
over n ks k = record { signature = record { lifetimes = n; outlives = []; params = slots ks; result = plain k.row }; kept = kepts ks }

-- WHAT THE PARAMETERS OWN, an entry for each
module _ {M : Type 1} (𝓤 : Ura M) {n : ℕ} (κs : Lfts n) where
  abbrev pub own_of : (k : Held n) → (k.row κs).Denot → Item 𝓤
  own_of k x = ‵ ((k.row κs).own_val x (k.val κs x ∷ []))

  abbrev pub owneds : (ks : List (Held n)) → Denoted κs ks → List (Item 𝓤)
  owneds [] a = []
  owneds (k ∷ ks) a = own_of k a.0 ∷ owneds ks a.1

module _ {M : Type 1} {𝓤 : Ura M} (𝓛 : Logic 𝓤) where
  open 𝓛 use {H}

  abbrev St : List (Item 𝓤) → SProp 𝓤
  St Γ = ⋆ 𝓛 Γ

  module _ {n : ℕ} (κs : Lfts n) where
    owns_out : (ks : List (Held n)) (a : Denoted κs ks) → ent 𝓤 (sem 𝓛 (owns (types_at (slots ks) κs) a (vals κs ks a))) (St (owneds 𝓤 κs ks a))
    owns_out [] a = id⊢ 𝓤 (emp 𝓤)
    owns_out (k ∷ ks) a = cons_in 𝓛 (own_of 𝓤 κs k a.0) (owneds 𝓤 κs ks a.1) (owns_out ks a.1)

    pub owns_in : (ks : List (Held n)) (a : Denoted κs ks) → ent 𝓤 (St (owneds 𝓤 κs ks a)) (sem 𝓛 (owns (types_at (slots ks) κs) a (vals κs ks a)))
    owns_in [] a = id⊢ 𝓤 (emp 𝓤)
    owns_in (k ∷ ks) a = cons_out 𝓛 (own_of 𝓤 κs k a.0) (owneds 𝓤 κs ks a.1) (owns_in ks a.1)

    has_none : (ks : List (Held n)) (a : Denoted κs ks) (ws : Ends κs ks a) (vss : Valss (types_at (slots ks) κs)) → ent 𝓤 (emp 𝓤) (sem 𝓛 (has_of κs (slots ks) (kepts ks) (dropped ks) a ws vss))
    has_none [] a ws vss = id⊢ 𝓤 (emp 𝓤)
    has_none (k ∷ ks) a ws vss = via 𝓤 (sep 𝓤 (emp 𝓤) (emp 𝓤)) (emp∗ 𝓤 (emp 𝓤)) (mono_r 𝓤 (emp 𝓤) (has_none ks a.1 ws.1 vss.1))

    laws : (ks : List (Held n)) → Lawfuls 𝓛 (types_at (slots ks) κs)
    laws [] = tt
    laws (k ∷ ks) = (k.lawful 𝓛 κs, laws ks)

    typed : (ks : List (Held n)) (a : Denoted κs ks) → Related κs ks a → Typed (mirs (types_at (slots ks) κs)) (passed κs ks a)
    typed ks a are = all_Typed 𝓛 (types_at (slots ks) κs) (laws ks) a (vals κs ks a) are

  all_go : {n : ℕ} (ks : List (Held n)) → AllGo 𝓛 n (slots ks) (kepts ks) (dropped ks)
  all_go [] = tt
  all_go {n} (k ∷ ks) = (Goes-Silent 𝓛 n (plain k.row) yes (stay_dropped (plain k.row) yes) (held_silent k), all_go ks)

  module _ (n : ℕ) (ks : List (Held n)) (k : Held n) (c : Clauses 𝓤 (over n ks k)) where
    abbrev exit_at : (κs : Lfts n) (qs : Shares n) (a : Denoted κs ks) → (c κs a).ghost → Val → SProp 𝓤
    exit_at κs qs a g = (walk_of 𝓛 (over n ks k) (dropped ks) c).post ((κs, qs, tt, a, vals κs ks a), g)

    ends : (κs : Lfts n) (qs : Shares n) (a : Denoted κs ks) (g : (c κs a).ghost) (r : (k.row κs).Denot) (ws : Ends κs ks a) → ent 𝓤 (emp 𝓤) ((c κs a).ensures g r (at_exit (over n ks k) κs a ws))
        → ent 𝓤 (St (own_of 𝓤 κs k r ∷ tokens 𝓤 n κs qs)) (exit_at κs qs a g (k.val κs r))
    ends κs qs a g r ws said =
        via 𝓤 _ (cons_out 𝓛 (own_of 𝓤 κs k r) (tokens 𝓤 n κs qs) (toks_in 𝓛 n κs qs))
        (qed 𝓛 (own_of 𝓤 κs k r ∷ raw (toks 𝓛 n κs qs) ∷ []) ∵
        suffices ! _ (ends_at 𝓛 (over n ks k) (dropped ks) c ((κs, qs, tt, a, vals κs ks a), g) (k.val κs r) r ws (fits κs ks a ws)) $
        use0 𝓛 (‵ (has_of κs (slots ks) (kepts ks) (dropped ks) a ws (vals κs ks a))) (has_none κs ks a ws (vals κs ks a)) $ join ! $ move ! (1 ∷ 0 ∷ []) $ join ! $
        use0 𝓛 (raw ((c κs a).ensures g r (at_exit (over n ks k) κs a ws))) said $ move ! (1 ∷ []) $ frame ! $ done !)

    -- a walk of fn: from the relations of the arguments, and that they are of their types, to any P that the exit shows
    abbrev pub Walked : Tables 𝓤 H → Fn → Type 2
    Walked 𝓣 fn = (κs : Lfts n) (qs : Shares n) (a : Denoted κs ks) (g : (c κs a).ghost) → Related κs ks a → Typed (mirs (types_at (slots ks) κs)) (passed κs ks a) → (P : Val → SProp 𝓤)
        → ((r : (k.row κs).Denot) (ws : Ends κs ks a) → ent 𝓤 (emp 𝓤) ((c κs a).ensures g r (at_exit (over n ks k) κs a ws)) → ent 𝓤 (St (own_of 𝓤 κs k r ∷ tokens 𝓤 n κs qs)) (P (k.val κs r)))
        → Seq (Go {0}) 𝓛 (raw ((c κs a).requires g) ∷ tokens 𝓤 n κs qs ++ owneds 𝓤 κs ks a) (prop (WpFn 𝓤 H 𝓣.C 𝓣.Λ fn (passed κs ks a) P))

    meets : (𝓣 : Tables 𝓤 H) (fn : Fn) → Walked 𝓣 fn → Meets 𝓛 (over n ks k).signature (WpFn 𝓤 H 𝓣.C 𝓣.Λ fn) (closing 𝓛 (over n ks k) c)
    meets 𝓣 fn walk =
        walk_Meets 𝓛 (over n ks k) (dropped ks) (all_go ks) c (WpFn 𝓤 H 𝓣.C 𝓣.Λ fn) (WpFn-mono 𝓤 H 𝓛.laws 𝓣 fn)
        (walked 𝓛 (over n ks k) (dropped ks) c (WpFn 𝓤 H 𝓣.C 𝓣.Λ fn) (λ κs. spells κs ks) (λ κs. tells_all κs ks) (λ κs qs bounds a g are.
        via 𝓤 _ (mono_l 𝓤 ((c κs a).requires g) (via 𝓤 _ (mono∗ 𝓤 (toks_out 𝓛 n κs qs) (owns_out κs ks a)) (++⊢ 𝓛 (tokens 𝓤 n κs qs) (owneds 𝓤 κs ks a))))
        (via 𝓤 _ (comm∗ 𝓤 (St (tokens 𝓤 n κs qs ++ owneds 𝓤 κs ks a)) ((c κs a).requires g)) (via 𝓤 _ (push 𝓛 (raw ((c κs a).requires g)) (tokens 𝓤 n κs qs ++ owneds 𝓤 κs ks a))
        (walk κs qs a g are (typed κs ks a are) (exit_at κs qs a g) (λ r ws said. ends κs qs a g r ws said)).prf))))

-- A FUNCTION THAT MEETS ITS CONTRACT
pub record Known {M : Type 1} {𝓤 : Ura M} (𝓛 : Logic 𝓤) (C : Calls 𝓤 𝓛.H) (f : Name) : Type 2 where
  pub n : ℕ
  pub ks : List (Held n)
  pub result : Held n
  pub clauses : Clauses 𝓤 (over n ks result)
  pub met : Triple 𝓤 (C f) (triple_of 𝓛 (over n ks result).signature (closing 𝓛 (over n ks result) clauses))

module _ {M : Type 1} {𝓤 : Ura M} (𝓛 : Logic 𝓤) (𝓜 : Model 𝓤 𝓛.H) (𝓡 : Running 𝓤 𝓛.H 𝓜) (γ : Routines) where
  open 𝓛 use {H}

  module _ (n : ℕ) (ks : List (Held n)) (k : Held n) (c : Clauses 𝓤 (over n ks k)) (f : Name) where
    abbrev Says : Contract 𝓤
    Says = triple_of 𝓛 (over n ks k).signature (closing 𝓛 (over n ks k) c)

    pub met_at : (r : Routine) → γ f ≡ r → Triple 𝓤 (𝓡.run r) Says → Triple 𝓤 ((Over 𝓛 𝓜 𝓡 γ).C f) Says
    unfolding tables_of
    met_at r p t = cited 𝓤 H Says 𝓜 𝓡 γ f r p t

    abbrev pub known : (r : Routine) → γ f ≡ r → Triple 𝓤 (𝓡.run r) Says → Known 𝓛 (Over 𝓛 𝓜 𝓡 γ).C f
    known r p t = record { n = n; ks = ks; result = k; clauses = c; met = met_at r p t }

    -- from the walk of a function's MIR to its contract
    pub proved : (fn : Fn) → Closed 𝓤 H (tables 𝓤 H 𝓜 𝓡 γ).C (tables 𝓤 H 𝓜 𝓡 γ).Λ f fn
        → Walked 𝓛 n ks k c (Over 𝓛 𝓜 𝓡 γ) fn
        → Triple 𝓤 (𝓡.run (γ f)) Says
    unfolding tables_of
    proved fn closed walk = entered 𝓤 H Says (tables 𝓤 H 𝓜 𝓡 γ).C (tables 𝓤 H 𝓜 𝓡 γ).Λ f fn closed (meets 𝓛 n ks k c (Over 𝓛 𝓜 𝓡 γ) fn walk)

-- A CALL: what it asks, as one entry
abbrev pub asks : {M : Type 1} {𝓤 : Ura M} {𝓛 : Logic 𝓤} {C : Calls 𝓤 𝓛.H} {f : Name} (G : Known 𝓛 C f) (κs : Lfts G.n) → Shares G.n → (a : Denoted κs G.ks) → (G.clauses κs a).ghost → Item 𝓤
asks {𝓤 = 𝓤} {𝓛 = 𝓛} G κs qs a g = raw (sep 𝓤 (on_entry 𝓛 (over G.n G.ks G.result).signature κs qs a (vals κs G.ks a)) ((G.clauses κs a).requires g))

module _ {M : Type 1} {𝓤 : Ura M} {𝓛 : Logic 𝓤} {K : Type 0} where
  open 𝓛 use {H}

  pub carries : K → {E : Env 𝓤 H} {q : Post 𝓤 H} {f : Name} {xs : List Operand} {d : Place} {rest : Body} {Γ : List (Item 𝓤)} (𝓣 : Tables 𝓤 H) (G : Known 𝓛 𝓣.C f)
      (κs : Lfts G.n) (qs : Shares G.n) (a : Denoted κs G.ks) (g : (G.clauses κs a).ghost) → ent 𝓤 (emp 𝓤) ((G.clauses κs a).requires g)
      → Opds K 𝓛 (asks G κs qs a g ∷ Γ) E xs (passed κs G.ks a)
      → (x : (G.result.row κs).Denot) → ((r : (G.result.row κs).Denot) (ws : Ends κs G.ks a) → ent 𝓤 ((G.clauses κs a).ensures g r (at_exit (over G.n G.ks G.result) κs a ws)) (fact 𝓤 (r ≡ x)))
      → (Is (G.result.row κs) x (G.result.val κs x ∷ []) → Seq K 𝓛 (own_of 𝓤 κs G.result x ∷ tokens 𝓤 G.n κs qs ++ Γ) (lands 𝓣.C 𝓣.Λ E d (G.result.val κs x) rest q))
      → Seq K 𝓛 ((tokens 𝓤 G.n κs qs ++ owneds 𝓤 κs G.ks a) ++ Γ) (runs 𝓣.C 𝓣.Λ E (seq (call f xs d) rest) q)
  carries t {E} {q} {f} {xs} {d} {rest} {Γ} 𝓣 G κs qs a g req os x says k =
      let n = G.n in let ks = G.ks in let R = G.result.row κs in let T = over n ks G.result in let c = G.clauses in
      to_one t (tokens 𝓤 n κs qs ++ owneds 𝓤 κs ks a) $
      use1 𝓛 (asks G κs qs a g)
      (via 𝓤 _ (⊢++ 𝓛 (tokens 𝓤 n κs qs) (owneds 𝓤 κs ks a)) (via 𝓤 _ (mono∗ 𝓤 (toks_in 𝓛 n κs qs) (owns_in 𝓛 κs ks a))
      (qed 𝓛 (raw (toks 𝓛 n κs qs) ∷ ‵ (owns (types_at (slots ks) κs) a (vals κs ks a)) ∷ []) ∵ join ! $ use0 𝓛 (raw ((c κs a).requires g)) req $ move ! (1 ∷ 0 ∷ []) $ done !))) $
      calls_at t (fm_of 𝓤 H 𝓛.laws 𝓣) (triple_of 𝓛 T.signature (closing 𝓛 T c)) G.met ((κs, qs, tt, a, vals κs ks a), g) os (λ v.
      use1 𝓛 (later (some (λ (r : R.Denot). (raw (toks 𝓛 n κs qs) ⊛ ‵ (R.own_val r (v ∷ []))) ⊛ some (λ (ws : Ends κs ks a). ‵ (lasts_of κs (slots ks) (kepts ks) a ws) ⊛ raw ((c κs a).ensures g r (at_exit T κs a ws)))))) (id⊢ 𝓤 _) $ await t tt $ pick t (λ r.
      split t $ move t (1 ∷ []) $ pick t (λ ws. split t $ drop t $ use1 𝓛 (raw (fact 𝓤 (r ≡ x))) (says r ws) $ heard t (r ≡ x) (λ e. split t $ move t (1 ∷ []) $
      -- [what the result owns; the tokens; …]
      rewrite t 0 (λ (y : R.Denot). ‵ (R.own_val y (v ∷ []))) e refl $ peeks t R (Is R) (shows 𝓛 R) x (v ∷ []) (λ is.
      let here = G.result.tells κs x (v ∷ []) is in
      rewrite t 0 (λ (us : List Val). ‵ (R.own_val x us)) here refl $ regoal t (λ (u : Val). lands 𝓣.C 𝓣.Λ E d u rest q) (ap only here) refl $
      move t (1 ∷ []) $ use1 𝓛 (raw (⋆ 𝓛 (tokens 𝓤 n κs qs))) (toks_out 𝓛 n κs qs) $ move t (1 ∷ 0 ∷ []) $ of_next t (tokens 𝓤 n κs qs) $ k (subst (Is R x) here is))))))
