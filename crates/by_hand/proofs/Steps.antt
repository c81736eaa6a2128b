-- Steps of a walk of straight-line code: plain data, lent slices that are passed on, and calls. It says nothing of the crate.
--     begins           the locals are allocated and the arguments stored: local i then stands at position i, and that all of them die behind them
--     at, big, args    a local read, a constant above 1023, and the operands of a call: local i stands at position k + i
--     counts, relends  `let n = s.len()`, and a `&mut [T]` lent on.        spans       a local array as a slice
--     calls            a call of a `Callee`: at the head of the context stand its tokens and then what its references and its `Held` own, in its order
--     gone, gone_room  a local is freed
-- Rests on `Thin` and on the kit's steps (`types.Run`). Assumes `Logic`.
use mathlib.Core.Path.{◌≡◌, refl, sym, ap, subst}
use Prim.Native.Nat.{ℕ, zero, ◌+◌, ◌<◌, ◌^◌}
use mathlib.Core.List.{List, [], ◌∷◌, ◌++◌}
use lib.Dec.{T}
use seplogic.Ra.Ura.{Ura}
use base.Fraction.{full_share}
use mathlib.Core.Option as Option
use mir.Syntax.{Sym, Ty, Tys, tcons, tnil, ty_int, ty_struct, ty_ref, mut, w64, Lifetime, Width, Callee as Name, Fn, Local, local, field, deref, Place, place, Opd as Operand, copy, int_big, rv_opd, addr_of, aggregate, Body, seq, assign, call, named}
use mir.Val.{Val, Vals, vint, vptr, vstruct, vcons, vnil, Fits, WT, has_ty}
use prog.Memory.{field_at, field_of}
use mir.Fields.{get_v, set_v}
use base.Logic.{SProp, ent, sep, emp, id⊢, via, mono∗, mono_l, guard_i}
use base.Fml.{Fml, ftrue, fsep, fat, froom, fdies}
use prog.Wp.{Heap, Env, spot_of, Calls, Loops, WpFn, Tables}
use types.Logic.{Logic}
use contract.Monad.{fact}
use contract.Lifetimes.{Lfts, Shares, lft_at, toks}
use sound.WpLaws.{fm_of}
use types.Kit.{Item, ‵, raw, ◌⊛◌, some, later, nth, put, ⋆, pop, push, ⊢++, ++⊢, Post, at_ret, Goal, prop, runs, lands, allocs, params', passes, frees, Seq, Step, step, ◌$◌, ◌∵◌, !, qed, move, drop, use0, use1, use2, split, join, pick, fsplit, feq_l, fjoin, regoal, await, frame, done}
use types.Part.{Part, agg, whole, sub, look_in}
use types.Run.{Opd, Opds, look, load, addr, from, hop, fld, stop, of_opd, and_then, no_more, assigns, enter, alloc1, alloc0, params1, pass1, pass0, free1, init, forget}
use denote.RattleType.{owns}
use denote.Laws.{Typed, Is, shows}
use denote.Slice.{slice_ty, slice_val, ShrSlice, shr_slice_vals}
use denote.Signature.{types_at}
use denote.Steps.{facts as let_go, heard, nothing, only}
use denote.Triple.Entry.{on_entry}
use denote.Triple.End.{lasts_of}
use denote.Triple.Spec.{triple_of}
use denote.Triple.Clauses.{at_exit, closing}
use denote.Triple.Call.{calls_at}
use Rattle.by_hand.proofs.Params.{Kind, slots, kepts, Denoted, vals, passed, Ends, facts, lens, thin, dat, shr, own, hld}
use Rattle.by_hand.proofs.Thin.{closed, tokens, refs, keeps, lefts, cons_in, cons_out, toks_out, toks_in, owns_in, refs_keep, Callee}

-- A FUNCTION'S LOCALS, in order
module _ {M : Type 1} (𝓤 : Ura M) (H : Heap 𝓤) where
  abbrev rooms : Env 𝓤 H → List (Item 𝓤)
  rooms [] = []
  rooms (e ∷ E) = ‵ (froom e.0 e.1 0) ∷ rooms E

  abbrev dies : Env 𝓤 H → Fml
  dies [] = ftrue
  dies (e ∷ E) = fsep (fdies e.0 e.1) (dies E)

  -- once the values are stored in the first of them
  abbrev filled : Env 𝓤 H → List Val → List (Item 𝓤)
  filled E [] = rooms E
  filled [] (v ∷ vs) = []
  filled (e ∷ E) (v ∷ vs) = ‵ (fat full_share e.0 e.1 0 v) ∷ filled E vs

  abbrev Fill : Env 𝓤 H → List Val → Type 0
  Fill E [] = Unit {0}
  Fill [] (v ∷ vs) = ⊥
  Fill (e ∷ E) (v ∷ vs) = (T (has_ty e.0 v) × WT v) × Fill E vs

  -- at a function's start: the result's place, the arguments, and the rest
  abbrev begun : Env 𝓤 H → List Val → List (Item 𝓤)
  begun [] vs = []
  begun (e ∷ E) vs = ‵ (froom e.0 e.1 0) ∷ filled E vs

  abbrev Begin : Env 𝓤 H → List Val → Type 0
  Begin [] vs = ⊥
  Begin (e ∷ E) vs = Fill E vs

  abbrev Each : List Local → (Env 𝓤 H → Type 1) → Type 1
  Each [] P = P []
  Each (local τ h ∷ ls) P = (b : ℕ) → Each ls (λ E. P ((τ, b) ∷ E))

  each_map : (ls : List Local) {P Q : Env 𝓤 H → Type 1} → ((E : Env 𝓤 H) → P E → Q E) → Each ls P → Each ls Q
  each_map [] f k = f [] k
  each_map (local τ h ∷ ls) f k = λ b. each_map ls (λ E. f ((τ, b) ∷ E)) (k b)

-- the operands of a call that are locals
abbrev copies : List ℕ → List Operand
copies [] = []
copies (i ∷ is) = copy (place i []) ∷ copies is

module _ {M : Type 1} {𝓤 : Ura M} (𝓛 : Logic 𝓤) (E : Env 𝓤 𝓛.H) where
  -- local i: its place, and its place with v in it
  open 𝓛 use {H}

  abbrev free : ℕ → Item 𝓤
  free i = ‵ (froom (spot_of 𝓤 H E i).0 (spot_of 𝓤 H E i).1 0)

  abbrev full : ℕ → Val → Item 𝓤
  full i v = ‵ (fat full_share (spot_of 𝓤 H E i).0 (spot_of 𝓤 H E i).1 0 v)

  -- that v can be stored there
  abbrev Stores : ℕ → Val → Type 0
  Stores i v = T (has_ty (spot_of 𝓤 H E i).0 v) × WT v

  abbrev Locals : List (Item 𝓤) → ℕ → List ℕ → List Val → Type 2
  Locals Γ k [] [] = Unit {2}
  Locals Γ k [] (v ∷ vs) = (Unit {2} × ⊥)
  Locals Γ k (i ∷ is) [] = (Unit {2} × ⊥)
  Locals Γ k (i ∷ is) (v ∷ vs) = (nth 𝓛 (k + i) Γ ≡ full i v) × Locals Γ k is vs

module _ {M : Type 1} {𝓤 : Ura M} {𝓛 : Logic 𝓤} {K : Type 0} where
  -- a part of the context, as one entry, and back; at the head, and behind it
  open 𝓛 use {H}

  pub to_one : K → (R : List (Item 𝓤)) {Γ : List (Item 𝓤)} {G : Goal 𝓤 H} → Step K 𝓛 (raw (⋆ 𝓛 R) ∷ Γ) G (R ++ Γ) G
  to_one t R {Γ} = step (λ s. record { prf = via 𝓤 _ (⊢++ 𝓛 R Γ) (via 𝓤 _ (push 𝓛 (raw (⋆ 𝓛 R)) Γ) s.prf) })

  of_one : K → (R : List (Item 𝓤)) {Γ : List (Item 𝓤)} {G : Goal 𝓤 H} → Step K 𝓛 (R ++ Γ) G (raw (⋆ 𝓛 R) ∷ Γ) G
  of_one t R {Γ} = step (λ s. record { prf = via 𝓤 _ (pop 𝓛 (raw (⋆ 𝓛 R)) Γ) (via 𝓤 _ (++⊢ 𝓛 R Γ) s.prf) })

  to_next : K → (R : List (Item 𝓤)) {i : Item 𝓤} {Γ : List (Item 𝓤)} {G : Goal 𝓤 H} → Step K 𝓛 (i ∷ raw (⋆ 𝓛 R) ∷ Γ) G (i ∷ R ++ Γ) G
  to_next t R {i} {Γ} = step (λ s. record { prf = via 𝓤 _ (cons_out 𝓛 i (R ++ Γ) (via 𝓤 _ (⊢++ 𝓛 R Γ) (push 𝓛 (raw (⋆ 𝓛 R)) Γ))) s.prf })

  pub of_next : K → (R : List (Item 𝓤)) {i : Item 𝓤} {Γ : List (Item 𝓤)} {G : Goal 𝓤 H} → Step K 𝓛 (i ∷ R ++ Γ) G (i ∷ raw (⋆ 𝓛 R) ∷ Γ) G
  of_next t R {i} {Γ} = step (λ s. record { prf = via 𝓤 _ (cons_in 𝓛 i (R ++ Γ) (via 𝓤 _ (pop 𝓛 (raw (⋆ 𝓛 R)) Γ) (++⊢ 𝓛 R Γ))) s.prf })

  -- an entry goes behind a part, or before it
  sinks : K → (R : List (Item 𝓤)) (i : Item 𝓤) (Γ : List (Item 𝓤)) {G : Goal 𝓤 H} → Step K 𝓛 (R ++ i ∷ Γ) G (i ∷ R ++ Γ) G
  sinks t R i Γ = step (λ s. to_next t R $ move t (1 ∷ 0 ∷ []) $ of_one t R $ s)

  rises : K → (R : List (Item 𝓤)) (i : Item 𝓤) (Γ : List (Item 𝓤)) {G : Goal 𝓤 H} → Step K 𝓛 (i ∷ R ++ Γ) G (R ++ i ∷ Γ) G
  rises t R i Γ = step (λ s. to_one t R $ move t (1 ∷ 0 ∷ []) $ of_next t R $ s)

  all_alloc : K → (ls : List Local) (Kt : Env 𝓤 H → Goal 𝓤 H) (Γ : List (Item 𝓤)) → Each 𝓤 H ls (λ E. Seq K 𝓛 (rooms 𝓤 H E ++ ‵ (dies 𝓤 H E) ∷ Γ) (Kt E)) → Seq K 𝓛 Γ (allocs ls Kt)
  all_alloc t [] Kt Γ k = alloc0 t $ nothing t $ k
  all_alloc t (local τ h ∷ ls) Kt Γ k = alloc1 t (λ b. all_alloc t ls (λ E. Kt ((τ, b) ∷ E)) (‵ (froom τ b 0) ∷ ‵ (fdies τ b) ∷ Γ)
      (each_map 𝓤 H ls (λ E s. to_one t (rooms 𝓤 H E) $ move t (3 ∷ 1 ∷ []) $ fjoin t $ move t (2 ∷ 1 ∷ 0 ∷ []) $ of_next t (rooms 𝓤 H E) $ s) (k b)))

  all_pass : K → (E : Env 𝓤 H) (vs : List Val) {g : Goal 𝓤 H} (Γ : List (Item 𝓤)) → Fill 𝓤 H E vs → Seq K 𝓛 (filled 𝓤 H E vs ++ Γ) g → Seq K 𝓛 (rooms 𝓤 H E ++ Γ) (passes E vs g)
  all_pass t E [] Γ ok s = pass0 t $ s
  all_pass t [] (v ∷ vs) Γ ok s = absurd ok
  all_pass t (e ∷ E) (v ∷ vs) Γ ok s = pass1 t (init t 0 refl ok.0) $ sinks t (rooms 𝓤 H E) (‵ (fat full_share e.0 e.1 0 v)) Γ $ all_pass t E vs (‵ (fat full_share e.0 e.1 0 v) ∷ Γ) ok.1 (rises t (filled 𝓤 H E vs) (‵ (fat full_share e.0 e.1 0 v)) Γ $ s)

  all_begin : K → (E : Env 𝓤 H) (vs : List Val) {g : Goal 𝓤 H} (Γ : List (Item 𝓤)) → Begin 𝓤 H E vs → Seq K 𝓛 (begun 𝓤 H E vs ++ Γ) g → Seq K 𝓛 (rooms 𝓤 H E ++ Γ) (params' E vs g)
  all_begin t [] vs Γ ok s = absurd ok
  all_begin t (e ∷ E) vs Γ ok s = params1 t $ sinks t (rooms 𝓤 H E) (‵ (froom e.0 e.1 0)) Γ $ all_pass t E vs (‵ (froom e.0 e.1 0) ∷ Γ) ok (rises t (filled 𝓤 H E vs) (‵ (froom e.0 e.1 0)) Γ $ s)

  pub begins : K → (𝓣 : Tables 𝓤 H) (f : Fn) (vs : List Val) (Kf : Val → SProp 𝓤) {Γ : List (Item 𝓤)}
      → Each 𝓤 H f.locals (λ E. Begin 𝓤 H E vs × Seq K 𝓛 (begun 𝓤 H E vs ++ ‵ (dies 𝓤 H E) ∷ Γ) (runs 𝓣.C 𝓣.Λ E f.body (at_ret E Kf))) → Seq K 𝓛 Γ (prop (WpFn 𝓤 H 𝓣.C 𝓣.Λ f vs Kf))
  begins t 𝓣 f vs Kf {Γ} k = enter t 𝓣.C 𝓣.Λ f vs Kf $ all_alloc t f.locals (λ E. params' E vs (runs 𝓣.C 𝓣.Λ E f.body (at_ret E Kf))) Γ (each_map 𝓤 H f.locals (λ E p. all_begin t E vs (‵ (dies 𝓤 H E) ∷ Γ) p.0 p.1) k)

  module _ {Γ : List (Item 𝓤)} {g : Goal 𝓤 H} {τ : Ty} {b : ℕ} {E : Env 𝓤 H} where
    pub gone : K → {v : Val} → Step K 𝓛 (‵ (dies 𝓤 H E) ∷ Γ) (frees E g) (‵ (fsep (fdies τ b) (dies 𝓤 H E)) ∷ ‵ (fat full_share τ b 0 v) ∷ Γ) (frees ((τ, b) ∷ E) g)
    gone t = step (λ s. fsplit t $ move t (2 ∷ 0 ∷ []) $ forget t 0 refl $ free1 t $ s)

    pub gone_room : K → Step K 𝓛 (‵ (dies 𝓤 H E) ∷ Γ) (frees E g) (‵ (fsep (fdies τ b) (dies 𝓤 H E)) ∷ ‵ (froom τ b 0) ∷ Γ) (frees ((τ, b) ∷ E) g)
    gone_room t = step (λ s. fsplit t $ move t (2 ∷ 0 ∷ []) $ free1 t $ s)

  -- STRAIGHT-LINE CODE, where local i stands at position k + i of the context
  module _ {Γ : List (Item 𝓤)} {E : Env 𝓤 H} where
    pub at : K → (k : ℕ) {i : ℕ} {v : Val} → nth 𝓛 (k + i) Γ ≡ full 𝓛 E i v → Opd K 𝓛 Γ E (copy (place i [])) v
    at t k {i} e = load t (from t (stop t)) (look t (k + i) e)

    -- a constant above 1023
    pub big : K → {w : Width} {n : ℕ} → Fits w n → Opd K 𝓛 Γ E (int_big w n) (vint w n)
    big t {w} {n} z = record { go = λ Kt h. via 𝓤 (Kt (vint w n)) h (guard_i 𝓤 (Fits w n) (Kt (vint w n)) z) }

    -- field j
    pub part : K → (k : ℕ) {i : ℕ} (j : ℕ) {ν : Sym} {τs : Tys} {vs : Vals} {τ : Ty} {d : ℕ} → nth 𝓛 (k + i) Γ ≡ ‵ (fat full_share (ty_struct ν τs) (spot_of 𝓤 H E i).1 0 (vstruct vs)) → field_of (spot_of 𝓤 H E i).0 j ≡ Option.some (τ, d) → field_at zero τs j ≡ Option.some (τ, d)
        → Opd K 𝓛 Γ E (copy (place i (field j ∷ []))) (get_v vs j)
    part t k {i} j {ν} {τs} {vs} {τ} {d} e f g = load t (from t (fld t f (stop t))) (look_in t (k + i)
        (subst (λ (it : Item 𝓤). Part K 𝓛 it full_share τ (spot_of 𝓤 H E i).1 (0 + d) (get_v vs j) (λ u. ‵ (fat full_share (ty_struct ν τs) (spot_of 𝓤 H E i).1 0 (vstruct (set_v vs j u))))) (sym e) (sub t j g (whole t))))

    args_of : K → (k : ℕ) (is : List ℕ) (vs : List Val) → Locals 𝓛 E Γ k is vs → Opds K 𝓛 Γ E (copies is) vs
    args_of t k [] [] l = no_more t
    args_of t k [] (v ∷ vs) l = absurd l.1
    args_of t k (i ∷ is) [] l = absurd l.1
    args_of t k (i ∷ is) (v ∷ vs) l = and_then t (at t k l.0) (args_of t k is vs l.1)

    pub args : K → (k : ℕ) (is : List ℕ) {vs : List Val} → Locals 𝓛 E Γ k is vs → Opds K 𝓛 Γ E (copies is) vs
    args t k is {vs} l = args_of t k is vs l

  module _ {Γ : List (Item 𝓤)} {E : Env 𝓤 H} {C : Calls 𝓤 H} {Λ : Loops 𝓤 H} {q : Post 𝓤 H} {rest : Body} where
    -- `let d = s.len()`
    pub counts : K → (k : ℕ) {s d : ℕ} {ρ : Ty} {p : ℕ × ℕ} {n b : ℕ} → nth 𝓛 (k + s) Γ ≡ ‵ (fat full_share (slice_ty ρ) (spot_of 𝓤 H E s).1 0 (slice_val p n))
        → field_of (spot_of 𝓤 H E s).0 1 ≡ Option.some (ty_int w64, b) → field_at zero (tcons ρ (tcons (ty_int w64) tnil)) 1 ≡ Option.some (ty_int w64, b)
        → nth 𝓛 (k + d) Γ ≡ free 𝓛 E d → Stores 𝓛 E d (vint w64 n)
        → Step K 𝓛 (put 𝓛 (k + d) (full 𝓛 E d (vint w64 n)) Γ) (runs C Λ E rest q) Γ (runs C Λ E (seq (assign (place d []) (rv_opd (copy (place s (field 1 ∷ []))))) rest) q)
    counts t k {s} {d} e f g i ok = assigns t (of_opd t (part t k 1 e f g)) (from t (stop t)) (init t (k + d) i ok)

    -- a `&mut [T]` is lent on: c is the pointer, d the slice
    pub relends : K → (k : ℕ) {s c d : ℕ} {σ τ : Ty} {ℓ : Lifetime} {b o n : ℕ} → nth 𝓛 (k + s) Γ ≡ ‵ (fat full_share (slice_ty (ty_ref ℓ mut σ)) (spot_of 𝓤 H E s).1 0 (slice_val (b, o) n))
        → field_of (spot_of 𝓤 H E s).0 0 ≡ Option.some (ty_ref ℓ mut σ, 0) → nth 𝓛 (k + c) Γ ≡ free 𝓛 E c → Stores 𝓛 E c (vptr b o)
        → nth 𝓛 (k + c) (put 𝓛 (k + c) (full 𝓛 E c (vptr b o)) Γ) ≡ full 𝓛 E c (vptr b o) → nth 𝓛 (k + s) (put 𝓛 (k + c) (full 𝓛 E c (vptr b o)) Γ) ≡ ‵ (fat full_share (slice_ty (ty_ref ℓ mut σ)) (spot_of 𝓤 H E s).1 0 (slice_val (b, o) n))
        → field_of (spot_of 𝓤 H E s).0 1 ≡ Option.some (ty_int w64, 8) → nth 𝓛 (k + d) (put 𝓛 (k + c) (full 𝓛 E c (vptr b o)) Γ) ≡ free 𝓛 E d → Stores 𝓛 E d (slice_val (b, o) n)
        → Step K 𝓛 (put 𝓛 (k + d) (full 𝓛 E d (slice_val (b, o) n)) (put 𝓛 (k + c) (full 𝓛 E c (vptr b o)) Γ)) (runs C Λ E rest q)
        Γ (runs C Λ E (seq (assign (place c []) (addr_of (place s (field 0 ∷ deref τ ∷ [])))) (seq (assign (place d []) (aggregate (copy (place c []) ∷ copy (place s (field 1 ∷ [])) ∷ []))) rest)) q)
    relends t k {s} {c} {d} {σ} {τ} {ℓ} {b} {o} {n} e f i ok e₁ e₂ f₂ i₂ ok₂ = step (λ r.
        assigns t (addr t (from t (fld t f (hop t (look_in t (k + s)
        (subst (λ (it : Item 𝓤). Part K 𝓛 it full_share (ty_ref ℓ mut σ) (spot_of 𝓤 H E s).1 (0 + 0) (vptr b o) (λ u. ‵ (fat full_share (slice_ty (ty_ref ℓ mut σ)) (spot_of 𝓤 H E s).1 0
        (vstruct (set_v (vcons (vptr b o) (vcons (vint w64 n) vnil)) 0 u))))) (sym e) (sub t 0 refl (whole t)))) (stop t))))) (from t (stop t)) (init t (k + c) i ok) $
        assigns t (agg t (and_then t (at t k e₁) (and_then t (part t k 1 e₂ f₂ refl) (no_more t)))) (from t (stop t)) (init t (k + d) i₂ ok₂) $ r)

    -- the local array i as a slice of its n elements, which are m: c is the pointer, d the slice
    pub spans : K → (k : ℕ) {i c d n m : ℕ} → m ≡ n → n < 2 ^ 64 → nth 𝓛 (k + c) Γ ≡ free 𝓛 E c → T (has_ty (spot_of 𝓤 H E c).0 (vptr (spot_of 𝓤 H E i).1 0))
        → nth 𝓛 (k + c) (put 𝓛 (k + c) (full 𝓛 E c (vptr (spot_of 𝓤 H E i).1 0)) Γ) ≡ full 𝓛 E c (vptr (spot_of 𝓤 H E i).1 0)
        → nth 𝓛 (k + d) (put 𝓛 (k + c) (full 𝓛 E c (vptr (spot_of 𝓤 H E i).1 0)) Γ) ≡ free 𝓛 E d → T (has_ty (spot_of 𝓤 H E d).0 (slice_val ((spot_of 𝓤 H E i).1, 0) n))
        → Step K 𝓛 (put 𝓛 (k + d) (full 𝓛 E d (slice_val ((spot_of 𝓤 H E i).1, 0) m)) (put 𝓛 (k + c) (full 𝓛 E c (vptr (spot_of 𝓤 H E i).1 0)) Γ)) (runs C Λ E rest q)
        Γ (runs C Λ E (seq (assign (place c []) (addr_of (place i []))) (seq (assign (place d []) (aggregate (copy (place c []) ∷ int_big w64 n ∷ []))) rest)) q)
    spans t k {i} {c} {d} {n} {m} is fits e ok e₁ e₂ ok₂ =
        let b = (spot_of 𝓤 H E i).1 in
        let Γ' = put 𝓛 (k + c) (full 𝓛 E c (vptr (spot_of 𝓤 H E i).1 0)) Γ in
        subst (λ (j : ℕ). Step K 𝓛 (put 𝓛 (k + d) (full 𝓛 E d (slice_val (b, 0) j)) Γ') (runs C Λ E rest q)
        Γ (runs C Λ E (seq (assign (place c []) (addr_of (place i []))) (seq (assign (place d []) (aggregate (copy (place c []) ∷ int_big w64 n ∷ []))) rest)) q)) (sym is)
        (step (λ r. assigns t (addr t (from t (stop t))) (from t (stop t)) (init t (k + c) e (ok, tt)) $
        assigns t (agg t (and_then t (at t k e₁) (and_then t (big t (record { fits = fits })) (no_more t)))) (from t (stop t)) (init t (k + d) e₂ (ok₂, (tt, (record { fits = fits }, tt)))) $ r))

  -- A CALL
  lasts_open : K → {n : ℕ} (κs : Lfts n) (ks : List (Kind n)) (a : Denoted κs ks) (ws : Ends κs ks a) {Γ : List (Item 𝓤)} {G : Goal 𝓤 H} → (lens κs ks a ws → Seq K 𝓛 (lefts 𝓤 κs ks a ws ++ Γ) G) → Seq K 𝓛 (‵ (lasts_of κs (slots ks) (kepts ks) a ws) ∷ raw (⋆ 𝓛 (keeps 𝓤 κs ks a)) ∷ Γ) G
  lasts_open t κs [] a ws k = drop t $ drop t $ k tt
  lasts_open t κs (dat D ∷ ks) a ws k = fsplit t $ drop t $ lasts_open t κs ks a.1 ws.1 k
  lasts_open t κs (hld h ∷ ks) a ws k = fsplit t $ drop t $ lasts_open t κs ks a.1 ws.1 k
  lasts_open t {n} κs (shr j ok R L ∷ ks) a ws {Γ} k = fsplit t $ drop t $ move t (1 ∷ []) $
      use1 𝓛 (‵ ((ShrSlice (named j) (lft_at n j ok κs) R).own_val a.0 (shr_slice_vals a.0)) ⊛ raw (⋆ 𝓛 (keeps 𝓤 κs ks a.1))) (pop 𝓛 (‵ ((ShrSlice (named j) (lft_at n j ok κs) R).own_val a.0 (shr_slice_vals a.0))) (keeps 𝓤 κs ks a.1)) $ split t $ move t (2 ∷ 1 ∷ []) $
      lasts_open t κs ks a.1 ws.1 (λ l. rises t (lefts 𝓤 κs ks a.1 ws.1) (‵ ((ShrSlice (named j) (lft_at n j ok κs) R).own_val a.0 (shr_slice_vals a.0))) Γ $ k l)
  lasts_open t {n} κs (own j ok R ∷ ks) a ws {Γ} k = fsplit t $ fsplit t $ fsplit t $ move t (1 ∷ []) $ feq_l t (λ e. fjoin t $ move t (1 ∷ 2 ∷ []) $
      lasts_open t κs ks a.1 ws.1 (λ l. rises t (lefts 𝓤 κs ks a.1 ws.1) (‵ (closed R (lft_at n j ok κs) a.0 ws.0)) Γ $ k (e, l)))

  pub calls : K → {E : Env 𝓤 H} {q : Post 𝓤 H} {f : Name} {xs : List Operand} {d : Place} {rest : Body} {Γ : List (Item 𝓤)} (𝓣 : Tables 𝓤 H) (G : Callee 𝓛 𝓣.C f)
      (κs : Lfts G.n) (qs : Shares G.n) (a : Denoted κs G.ks) (g : (G.clauses κs a).ghost) → facts κs G.ks a → ent 𝓤 (emp 𝓤) ((G.clauses κs a).requires g)
      → Opds K 𝓛 (raw (sep 𝓤 (on_entry 𝓛 (thin G.n G.ks G.result).signature κs qs a (vals κs G.ks a)) ((G.clauses κs a).requires g)) ∷ raw (⋆ 𝓛 (keeps 𝓤 κs G.ks a)) ∷ Γ) E xs (passed κs G.ks a)
      → (φ : G.result.row.Denot → Ends κs G.ks a → Type 0) → ((r : G.result.row.Denot) (ws : Ends κs G.ks a) → ent 𝓤 ((G.clauses κs a).ensures g r (at_exit (thin G.n G.ks G.result) κs a ws)) (fact 𝓤 (φ r ws)))
      → ((r : G.result.row.Denot) (ws : Ends κs G.ks a) → Is G.result.row r (G.result.val r ∷ []) → Typed G.result.row.mir (G.result.val r ∷ []) → φ r ws → lens κs G.ks a ws
      → Seq K 𝓛 ((tokens 𝓤 G.n κs qs ++ lefts 𝓤 κs G.ks a ws) ++ Γ) (lands 𝓣.C 𝓣.Λ E d (G.result.val r) rest q))
      → Seq K 𝓛 ((tokens 𝓤 G.n κs qs ++ refs 𝓤 κs G.ks a) ++ Γ) (runs 𝓣.C 𝓣.Λ E (seq (call f xs d) rest) q)
  calls t {E} {q} {f} {xs} {d} {rest} {Γ} 𝓣 G κs qs a g fs req os φ says k =
      let n = G.n in let ks = G.ks in let D = G.result in let c = G.clauses in
      to_one t (tokens 𝓤 n κs qs ++ refs 𝓤 κs ks a) $
      use1 𝓛 (raw (sep 𝓤 (on_entry 𝓛 (thin n ks D).signature κs qs a (vals κs ks a)) ((c κs a).requires g)) ⊛ raw (⋆ 𝓛 (keeps 𝓤 κs ks a)))
      (via 𝓤 _ (⊢++ 𝓛 (tokens 𝓤 n κs qs) (refs 𝓤 κs ks a)) (via 𝓤 _ (mono∗ 𝓤 (toks_in 𝓛 n κs qs) (via 𝓤 _ (refs_keep 𝓛 κs ks a) (mono_l 𝓤 (⋆ 𝓛 (keeps 𝓤 κs ks a)) (owns_in 𝓛 κs ks a fs))))
      (qed 𝓛 (raw (toks 𝓛 n κs qs) ∷ (‵ (owns (types_at (slots ks) κs) a (vals κs ks a)) ⊛ raw (⋆ 𝓛 (keeps 𝓤 κs ks a))) ∷ []) ∵ move ! (1 ∷ []) $ split ! $ move ! (2 ∷ 0 ∷ []) $ join ! $ use0 𝓛 (raw ((c κs a).requires g)) req $ move ! (1 ∷ 0 ∷ []) $ join ! $ frame ! $ done !))) $ split t $
      calls_at t (fm_of 𝓤 H 𝓛.laws 𝓣) (triple_of 𝓛 (thin n ks D).signature (closing 𝓛 (thin n ks D) c)) G.met ((κs, qs, tt, a, vals κs ks a), g) os (λ v.
      use1 𝓛 (later (some (λ (r : D.row.Denot). (raw (toks 𝓛 n κs qs) ⊛ ‵ (D.row.own_val r (v ∷ []))) ⊛ some (λ (ws : Ends κs ks a). ‵ (lasts_of κs (slots ks) (kepts ks) a ws) ⊛ raw ((c κs a).ensures g r (at_exit (thin n ks D) κs a ws)))))) (id⊢ 𝓤 _) $ await t tt $ pick t (λ r.
      split t $ move t (1 ∷ []) $ pick t (λ ws. split t $ move t (1 ∷ []) $ use1 𝓛 (raw (fact 𝓤 (φ r ws))) (says r ws) $ heard t (φ r ws) (λ e. move t (1 ∷ []) $ split t $ move t (1 ∷ []) $
      let_go t D.row (Is D.row) (shows 𝓛 D.row) r (v ∷ []) (λ is. regoal t (λ (u : Val). lands 𝓣.C 𝓣.Λ E d u rest q) (ap only (D.tells r (v ∷ []) is)) refl $
      -- [the tokens; the last values; what is kept; …]
      use1 𝓛 (raw (⋆ 𝓛 (tokens 𝓤 n κs qs))) (toks_out 𝓛 n κs qs) $ move t (1 ∷ 2 ∷ []) $ lasts_open t κs ks a ws (λ l.
      to_one t (lefts 𝓤 κs ks a ws) $ move t (1 ∷ 0 ∷ []) $ use2 𝓛 (raw (⋆ 𝓛 (tokens 𝓤 n κs qs ++ lefts 𝓤 κs ks a ws))) (++⊢ 𝓛 (tokens 𝓤 n κs qs) (lefts 𝓤 κs ks a ws)) $ of_one t (tokens 𝓤 n κs qs ++ lefts 𝓤 κs ks a ws) $
      let here = subst (Is D.row r) (D.tells r (v ∷ []) is) is in k r ws here ((D.lawful 𝓛).typed r _ here) e l))))))
