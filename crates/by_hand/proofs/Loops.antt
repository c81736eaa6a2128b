-- Steps of a walk with a loop, and of one that lends what it owns for a call. It says nothing of the crate.
--     turns            a loop: S x puts into the context what it holds in the state x. A turn goes on in a state of less measure, or leaves, each by a step that it is handed
--     upto             `while i < n`: the state is how many turns were taken
--     holds, fails     the test's outcome.        tests        the test of a `while`, where its outcome isn't known
--     array_open       a local array that was stored whole, as its elements.        array_shut       and back
--     finishes         a `&mut [T]` that was closed is given up at its last list
--     lends, returned  elements that the function owns are lent as a `&[T]` for a call, and come back: their type is one that is shared out with a token of any lifetime (`denote.Shares`).        lends_mut, returned_mut      as a `&mut [T]`
--     lends_array, array_back      the same of a local array.        lends_array_mut, array_back_mut
--     data_copy        data can be copied
-- Rests on `Params` and on the kit's rules for loops, arrays and borrows. Assumes `Logic`.
use mathlib.Core.Path.{◌≡◌, refl, sym, ap, subst}
use Prim.Native.Nat.{ℕ, ◌<◌, ◌≤◌, ◌+◌, ◌-◌}
use native.Mathlib.Nat.{eq-or-lt_of_le}
use native.Mathlib.Omega.{arith}
use mathlib.Core.Bool.{Bool, true, false}
use mathlib.Core.Logic.{◌⊎◌, inl, inr}
use mathlib.Core.List.{List, [], ◌∷◌, map, not-mem-nil}
use lib.ListN.{length}
use lib.WfN.{lt-wf_rel}
use lib.Dec.{T, T_not}
use seplogic.Ra.Ura.{Ura}
use base.Fraction.{full_share}
use mir.Syntax.{Opd as Operand, Body, seq, skip, exit, cond, block, loop, ty_array, named}
use mir.Val.{Val, vbool}
use base.Logic.{SProp, ent, ex, guard, via, ex_i, ex_e, guard_i, guard_e}
use base.Fml.{GName, Incl-refl, fat, fres, fobs, flft, flent}
use prog.Wp.{Out, next, exits, Env, Calls, Loops, after_seq, after_block, after_turn, Wp, Tables}
use types.Logic.{Logic}
use sound.Loop.{loop_rule}
use types.Kit.{Soaks, Item, ‵, some, later, await, ◌⊛◌, ⋆, Post, any_q, post, Goal, prop, runs, Seq, Step, step, ◌$◌, ◌∵◌, !, qed, by, move, drop, use1, use2, use3, split, pick, fsplit, fjoin, feq_i, rewrite, frame, done}
use types.Run.{Opd, first, branches, skips, jumps}
use types.Share.{arr_parts}
use types.Tokens.{lft_new, lft_end, lent_back}
use types.SemTy.{cells, Arr}
use denote.Shares.{Shares}
use denote.Lend.{Held, lends_slice, slice_back, lends_shr_slice}
use denote.RattleType.{RattleType}
use denote.Slice.{ShrSlice, MutSlice, slice_val, Room, finally, res-finally, coded_holeys, heres}
use denote.Laws.{Is, Copy, shows}
use denote.Memory.{mem, lone, part_at, shares}
use denote.Array.{Array, array_val}
use denote.ArrayMemory.{Single, Array-apart, Array-whole}
use denote.Index.{row, whole_in, whole_out}
use denote.Steps.{owned, facts as let_go, only}
use borrow.Table.OneValue.{part_in, part_out}
use Rattle.by_hand.proofs.Params.{Data, array}

pub holds : (t : Bool) → T t → t ≡ true
holds true _ = refl
holds false a = absurd a

pub fails : (t : Bool) → (T t → ⊥) → t ≡ false
fails true g = absurd (g tt)
fails false _ = refl

-- how many of n turns were taken
record Upto (n : ℕ) : Type 0 where
  i : ℕ
  few : i ≤ n

pub data_copy : (D : Data) {M : Type 1} {𝓤 : Ura M} (𝓛 : Logic 𝓤) → Copy 𝓛 D.row
data_copy D 𝓛 = record {
  twice = λ x vs. qed 𝓛 (‵ (D.row.own_val x vs) ∷ []) ∵ let_go ! D.row (Is D.row) (shows 𝓛 D.row) x vs (λ p. owned ! D.row (Is D.row) (D.makes 𝓛) x vs p $ frame ! $ owned ! D.row (Is D.row) (D.makes 𝓛) x vs p $ done !);
}

module _ {M : Type 1} {𝓤 : Ura M} {𝓛 : Logic 𝓤} {K : Type 0} where
  open 𝓛 use {H}

  pub turns : K → {E : Env 𝓤 H} (𝓣 : Tables 𝓤 H) {turn rest : Body} {q : Post 𝓤 H} {Γ : List (Item 𝓤)} (X : Type 0) (μ : X → ℕ) (S : X → List (Item 𝓤) → List (Item 𝓤)) (x : X) → S x Γ ≡ Γ
      → ((y : X) (Q : Post 𝓤 H) → ((z : X) → μ z < μ y → Seq K 𝓛 (S z Γ) (prop (post 𝓤 H Q next))) → ((Δ : List (Item 𝓤)) → Step K 𝓛 Δ (runs 𝓣.C 𝓣.Λ E rest q) Δ (prop (post 𝓤 H Q (exits 1))))
      → Seq K 𝓛 (S y Γ) (runs 𝓣.C 𝓣.Λ E turn Q))
      → Seq K 𝓛 Γ (runs 𝓣.C 𝓣.Λ E (seq (block (loop turn)) rest) q)
  unfolding after_turn
  turns t {E} 𝓣 {turn} {rest} {q} {Γ} X μ S x starts each = by t (subst (λ (Δ : List (Item 𝓤)). ent 𝓤 (⋆ 𝓛 Δ) (Wp 𝓤 H 𝓣.C 𝓣.Λ E (seq (block (loop turn)) rest) (post 𝓤 H q))) starts
      (via 𝓤 (Inv (μ x)) (into (μ x) x refl) (loop_rule 𝓤 H 𝓛.laws 𝓣 ◌<◌ lt-wf_rel.wf E turn Left Inv turned (μ x))))
    where
      At : X → SProp 𝓤
      At y = ⋆ 𝓛 (S y Γ)

      Inv : ℕ → SProp 𝓤
      Inv u = ex 𝓤 (λ (y : X). guard 𝓤 (μ y ≡ u) (At y))

      Below : ℕ → SProp 𝓤
      Below u = ex 𝓤 (λ (v : ℕ). guard 𝓤 (v < u) (Inv v))

      Left : Out → SProp 𝓤
      Left = after_block 𝓤 H (after_seq 𝓤 H (Wp 𝓤 H 𝓣.C 𝓣.Λ E rest (post 𝓤 H q)) (post 𝓤 H q))

      into : (u : ℕ) (y : X) → μ y ≡ u → ent 𝓤 (At y) (Inv u)
      into u y h = via 𝓤 (guard 𝓤 (μ y ≡ u) (At y)) (guard_i 𝓤 (μ y ≡ u) (At y) h) (ex_i 𝓤 (λ (z : X). guard 𝓤 (μ z ≡ u) (At z)) y)

      below : (u : ℕ) (z : X) → μ z < u → ent 𝓤 (At z) (Below u)
      below u z less = via 𝓤 (Inv (μ z)) (into (μ z) z refl) (via 𝓤 (guard 𝓤 (μ z < u) (Inv (μ z))) (guard_i 𝓤 (μ z < u) (Inv (μ z)) less) (ex_i 𝓤 (λ (v : ℕ). guard 𝓤 (v < u) (Inv v)) (μ z)))

      turned : (u : ℕ) → ent 𝓤 (Inv u) (Wp 𝓤 H 𝓣.C 𝓣.Λ E turn (after_turn 𝓤 H (Below u) Left))
      turned u = ex_e 𝓤 (λ (y : X). guard 𝓤 (μ y ≡ u) (At y)) (λ y. guard_e 𝓤 (μ y ≡ u) (At y) (λ h.
          (each y (any_q (after_turn 𝓤 H (Below u) Left)) (λ z less. by t (below u z (subst (λ (v : ℕ). μ z < v) h less))) (λ Δ. step (λ s. by t s.prf))).prf))

  pub upto : K → {E : Env 𝓤 H} (𝓣 : Tables 𝓤 H) {turn rest : Body} {q : Post 𝓤 H} {Γ : List (Item 𝓤)} (n : ℕ) (S : ℕ → List (Item 𝓤) → List (Item 𝓤)) → S 0 Γ ≡ Γ
      → ((i : ℕ) (Q : Post 𝓤 H) → i < n → Seq K 𝓛 (S (i + 1) Γ) (prop (post 𝓤 H Q next)) → Seq K 𝓛 (S i Γ) (runs 𝓣.C 𝓣.Λ E turn Q))
      → ((Q : Post 𝓤 H) → ((Δ : List (Item 𝓤)) → Step K 𝓛 Δ (runs 𝓣.C 𝓣.Λ E rest q) Δ (prop (post 𝓤 H Q (exits 1)))) → Seq K 𝓛 (S n Γ) (runs 𝓣.C 𝓣.Λ E turn Q))
      → Seq K 𝓛 Γ (runs 𝓣.C 𝓣.Λ E (seq (block (loop turn)) rest) q)
  upto t {E} 𝓣 {turn} {rest} {q} {Γ} n S starts more ends =
      turns t 𝓣 (Upto n) (λ y. n - y.i) (λ y. S y.i) (record { i = 0; few = omega arith }) starts (λ y Q again out. at y Q again out (eq-or-lt_of_le y.few))
    where
      at : (y : Upto n) (Q : Post 𝓤 H) → ((z : Upto n) → n - z.i < n - y.i → Seq K 𝓛 (S z.i Γ) (prop (post 𝓤 H Q next)))
          → ((Δ : List (Item 𝓤)) → Step K 𝓛 Δ (runs 𝓣.C 𝓣.Λ E rest q) Δ (prop (post 𝓤 H Q (exits 1)))) → (y.i ≡ n) ⊎ (y.i < n) → Seq K 𝓛 (S y.i Γ) (runs 𝓣.C 𝓣.Λ E turn Q)
      at y Q again out (inr small) = more y.i Q small (again (record { i = y.i + 1; few = omega arith }) (omega arith))
      at y Q again out (inl is) = subst (λ (j : ℕ). Seq K 𝓛 (S j Γ) (runs 𝓣.C 𝓣.Λ E turn Q)) (sym is) (ends Q out)

  pub tests : K → {E : Env 𝓤 H} {C : Calls 𝓤 H} {Λ : Loops 𝓤 H} {q : Post 𝓤 H} {Γ : List (Item 𝓤)} {c : Operand} {n : ℕ} {b : Body} {y : Bool} → Opd K 𝓛 Γ E c (vbool y)
      → (y ≡ true → Seq K 𝓛 Γ (runs C Λ E b q)) → (y ≡ false → Seq K 𝓛 Γ (prop (post 𝓤 H q (exits n)))) → Seq K 𝓛 Γ (runs C Λ E (seq (cond c skip (exit n)) b) q)
  tests t {y = y} o held failed = first t $ branches t o (λ h. skips t $ record { prf = (held (holds y h)).prf }) (λ h. jumps t $ failed (fails y (T_not y h)))

  module _ {Γ : List (Item 𝓤)} {G : Goal 𝓤 H} where
    pub array_open : K → (D : Data) (n : ℕ) → Single D.row.mir → (xs : List D.row.Denot) (b : ℕ) → Is (Array D.row n) xs (array_val (map D.val xs) ∷ [])
        → Step K 𝓛 (‵ (row D.row full_share xs b 0) ∷ Γ) G (‵ (fat full_share (ty_array (lone D.row.mir) n) b 0 (array_val (map D.val xs))) ∷ Γ) G
    array_open t D n one xs b is = step (λ s. owned t (Array D.row n) (Is (Array D.row n)) ((array D n).makes 𝓛) xs (array_val (map D.val xs) ∷ []) is $ move t (1 ∷ 0 ∷ []) $
        use2 𝓛 (‵ (part_at (Array D.row n) full_share xs b 0)) (part_in 𝓛 (Array D.row n) refl full_share xs b 0 (array_val (map D.val xs))) $
        use1 𝓛 (‵ ((arr_parts (shares D.row) n).part full_share xs b 0)) (Array-apart 𝓛 D.row full_share one n xs b 0) $ fsplit t $ drop t $ s)

    pub array_shut : K → (D : Data) (n : ℕ) (xs : List D.row.Denot) (b : ℕ) → length xs ≡ n
        → (Is (Array D.row n) xs (array_val (map D.val xs) ∷ []) → Seq K 𝓛 (‵ (fat full_share (ty_array (lone D.row.mir) n) b 0 (array_val (map D.val xs))) ∷ Γ) G) → Seq K 𝓛 (‵ (row D.row full_share xs b 0) ∷ Γ) G
    array_shut t D n xs b l k = feq_i t ℕ (length xs) n l $ fjoin t $ use1 𝓛 (‵ (part_at (Array D.row n) full_share xs b 0)) (Array-whole 𝓛 D.row full_share n xs b 0) $
        use1 𝓛 (some (λ (v : Val). ‵ (fat full_share (ty_array (lone D.row.mir) n) b 0 v) ⊛ ‵ ((Array D.row n).own_val xs (v ∷ [])))) (part_out 𝓛 (Array D.row n) refl full_share xs b 0) $ pick t (λ v. split t $ move t (1 ∷ []) $
        let_go t (Array D.row n) (Is (Array D.row n)) (shows 𝓛 (Array D.row n)) xs (v ∷ []) (λ is. let e = (array D n).tells xs (v ∷ []) is in
        rewrite t 0 (λ (u : Val). ‵ (fat full_share (ty_array (lone D.row.mir) n) b 0 u)) (ap only e) refl $ k (subst (Is (Array D.row n) xs) e is)))

    -- what was a `&mut [T]` is given up at its last list
    pub finishes : K → (R : RattleType) (γ : GName) (ys : List R.Denot) → Step K 𝓛 (‵ (finally R γ ys) ∷ Γ) G (‵ (fobs γ ((coded_holeys R).code (heres R ys))) ∷ Γ) G
    finishes t R γ ys = step (λ s. use1 𝓛 (‵ (fres γ ((coded_holeys R).code (heres R ys)))) (𝓛.names.obs-res γ ((coded_holeys R).code (heres R ys))) $ use1 𝓛 (‵ (finally R γ ys)) (res-finally 𝓛 (named 0) [] R γ ys) $ s)

    -- elements that the function owns are lent for a lifetime that is made for a call, as a `&[T]`, and come back
    pub lends : K → Soaks G → (R : RattleType) → Shares 𝓛 R [] → (ys : List R.Denot) (b o : ℕ) → Room R (length ys)
        → ((α : ℕ) (γ : GName) → Seq K 𝓛 (‵ (flft (α ∷ []) full_share) ∷ ‵ ((ShrSlice (named 0) (α ∷ []) R).own_val (record { ref_ptr = (b, o); now = ys }) (slice_val (b, o) (length ys) ∷ [])) ∷ ‵ (flent (α ∷ []) ((arr_parts (shares R) (length ys)).part full_share ys b o)) ∷ Γ) G)
        → Seq K 𝓛 (‵ (row R full_share ys b o) ∷ Γ) G
    lends t z R s ys b o g k = feq_i t ℕ (length ys) (length ys) refl $ fjoin t $ lft_new t z (λ α. move t (1 ∷ 0 ∷ []) $
        use2 𝓛 (later ((‵ ((ShrSlice (named 0) (α ∷ []) R).own_val (record { ref_ptr = (b, o); now = ys }) (slice_val (b, o) (length ys) ∷ [])) ⊛ ‵ (flent (α ∷ []) ((arr_parts (shares R) (length ys)).part full_share ys b o))) ⊛ ‵ (flft (α ∷ []) full_share)))
        (lends_shr_slice 𝓛 R (named 0) (α ∷ []) full_share ys b o g [] s ((α ∷ [], full_share) ∷ []) (λ a m. absurd (not-mem-nil m)) (Incl-refl (α ∷ []))) $ await t z $ split t $ split t $ move t (2 ∷ 0 ∷ 1 ∷ []) $ k α 0)

    pub returned : K → Soaks G → (R : RattleType) (ys : List R.Denot) (b o : ℕ) {α : ℕ} → Step K 𝓛 (‵ (row R full_share ys b o) ∷ Γ) G (‵ (flft (α ∷ []) full_share) ∷ ‵ (flent (α ∷ []) ((arr_parts (shares R) (length ys)).part full_share ys b o)) ∷ Γ) G
    returned t z R ys b o = step (λ s. lft_end t z $ lent_back t z $ fsplit t $ drop t $ s)

    -- the same as a `&mut [T]`: they come back at the last list
    pub lends_mut : K → Soaks G → (R : RattleType) (ys : List R.Denot) (b o : ℕ) → Room R (length ys)
        → ((α : ℕ) (γ : GName) → Seq K 𝓛 (‵ (flft (α ∷ []) full_share) ∷ ‵ ((MutSlice (named 0) (α ∷ []) R).own_val (record { ref_ptr = (b, o); ghost_name = γ; now = ys }) (slice_val (b, o) (length ys) ∷ [])) ∷ ‵ (flent (α ∷ []) (Held R (length ys) b o γ)) ∷ Γ) G)
        → Seq K 𝓛 (‵ (row R full_share ys b o) ∷ Γ) G
    lends_mut t z R ys b o g k = use1 𝓛 (‵ (cells (mem R) ys b o)) (whole_in 𝓛 R ys b o) $ lft_new t z (λ α. move t (1 ∷ []) $
        use1 𝓛 (later (some (λ (γ : GName). ‵ ((MutSlice (named 0) (α ∷ []) R).own_val (record { ref_ptr = (b, o); ghost_name = γ; now = ys }) (slice_val (b, o) (length ys) ∷ [])) ⊛ ‵ (flent (α ∷ []) (Held R (length ys) b o γ)))))
        (lends_slice 𝓛 R (named 0) (α ∷ []) ys b o g) $ await t z $ pick t (λ γ. split t $ move t (2 ∷ 0 ∷ 1 ∷ []) $ k α γ))

    pub returned_mut : K → Soaks G → (R : RattleType) (zs : List R.Denot) (n b o : ℕ) {α : ℕ} {γ : GName}
        → Step K 𝓛 (‵ (row R full_share zs b o) ∷ Γ) G (‵ (flft (α ∷ []) full_share) ∷ ‵ (flent (α ∷ []) (Held R n b o γ)) ∷ ‵ (finally R γ zs) ∷ Γ) G
    returned_mut t z R zs n b o {α} {γ} = step (λ s. lft_end t z $ use3 𝓛 (later (‵ ((Arr (mem R) n).own_at zs b o))) (slice_back 𝓛 R (α ∷ []) γ zs n b o) $ await t z $ fsplit t $ drop t $ use1 𝓛 (‵ (row R full_share zs b o)) (whole_out 𝓛 R zs b o) $ s)

    -- the same of a local array: it is lent, and comes back whole
    pub lends_array : K → Soaks G → (D : Data) → Shares 𝓛 D.row [] → (n : ℕ) → Single D.row.mir → (xs : List D.row.Denot) (b : ℕ) → Is (Array D.row n) xs (array_val (map D.val xs) ∷ []) → Room D.row n
        → ((α : ℕ) (γ : GName) → Seq K 𝓛 (‵ (flft (α ∷ []) full_share) ∷ ‵ ((ShrSlice (named 0) (α ∷ []) D.row).own_val (record { ref_ptr = (b, 0); now = xs }) (slice_val (b, 0) (length xs) ∷ []))
        ∷ ‵ (flent (α ∷ []) ((arr_parts (shares D.row) (length xs)).part full_share xs b 0)) ∷ Γ) G)
        → Seq K 𝓛 (‵ (fat full_share (ty_array (lone D.row.mir) n) b 0 (array_val (map D.val xs))) ∷ Γ) G
    lends_array t z D s n one xs b is g k = array_open t D n one xs b is $ lends t z D.row s xs b 0 (subst (Room D.row) (sym is.1.0.1) g) k

    pub array_back : K → Soaks G → (D : Data) (n : ℕ) (xs : List D.row.Denot) (b : ℕ) {α : ℕ} → length xs ≡ n
        → (Is (Array D.row n) xs (array_val (map D.val xs) ∷ []) → Seq K 𝓛 (‵ (fat full_share (ty_array (lone D.row.mir) n) b 0 (array_val (map D.val xs))) ∷ Γ) G)
        → Seq K 𝓛 (‵ (flft (α ∷ []) full_share) ∷ ‵ (flent (α ∷ []) ((arr_parts (shares D.row) (length xs)).part full_share xs b 0)) ∷ Γ) G
    array_back t z D n xs b l k = returned t z D.row xs b 0 $ array_shut t D n xs b l k

    pub lends_array_mut : K → Soaks G → (D : Data) (n : ℕ) → Single D.row.mir → (xs : List D.row.Denot) (b : ℕ) → Is (Array D.row n) xs (array_val (map D.val xs) ∷ []) → Room D.row n
        → ((α : ℕ) (γ : GName) → Seq K 𝓛 (‵ (flft (α ∷ []) full_share) ∷ ‵ ((MutSlice (named 0) (α ∷ []) D.row).own_val (record { ref_ptr = (b, 0); ghost_name = γ; now = xs }) (slice_val (b, 0) (length xs) ∷ []))
        ∷ ‵ (flent (α ∷ []) (Held D.row (length xs) b 0 γ)) ∷ Γ) G)
        → Seq K 𝓛 (‵ (fat full_share (ty_array (lone D.row.mir) n) b 0 (array_val (map D.val xs))) ∷ Γ) G
    lends_array_mut t z D n one xs b is g k = array_open t D n one xs b is $ lends_mut t z D.row xs b 0 (subst (Room D.row) (sym is.1.0.1) g) k

    pub array_back_mut : K → Soaks G → (D : Data) (n : ℕ) (zs : List D.row.Denot) (b : ℕ) {m α : ℕ} {γ : GName} → length zs ≡ n
        → (Is (Array D.row n) zs (array_val (map D.val zs) ∷ []) → Seq K 𝓛 (‵ (fat full_share (ty_array (lone D.row.mir) n) b 0 (array_val (map D.val zs))) ∷ Γ) G)
        → Seq K 𝓛 (‵ (flft (α ∷ []) full_share) ∷ ‵ (flent (α ∷ []) (Held D.row m b 0 γ)) ∷ ‵ (finally D.row γ zs) ∷ Γ) G
    array_back_mut t z D n zs b {m} l k = returned_mut t z D.row zs m b 0 $ array_shut t D n zs b l k
