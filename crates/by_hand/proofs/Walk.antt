-- What a walk names, from one place: the kit's steps, and those of `Steps` and `Loops`. A walk's `use` line picks from it.
pub use mathlib.Core.Path.{◌≡◌, refl, sym, ap, subst, ◌∙◌}
pub use mathlib.Core.Bool.{Bool}
pub use mathlib.Core.List.{List, [], ◌∷◌, map}
pub use Prim.Native.Nat.{ℕ, ◌<◌, ◌≤◌, ◌*◌, ◌^◌}
pub use native.Mathlib.Omega.{arith}
pub use lib.ListN.{length, get_or, replicate}
pub use lib.Dec.{ltb, lt→ltb, ltb→lt, lit<}
pub use seplogic.Ra.Ura.{Ura}
pub use base.Fraction.{full_share}
pub use mir.Syntax.{w16, w32, w64, erased, mut, ty_ref, ty_bool, ty_int, ty_ptr}
pub use mir.Val.{vbool, vint, vptr}
pub use base.Logic.{id⊢}
pub use base.Fml.{fat}
pub use ghost.Atoms.{Atoms}
pub use prog.Model.{Model}
pub use prog.Wp.{Heap, Tables}
pub use contract.Monad.{fact_i}
pub use contract.Running.{Running}
pub use types.Logic.{Logic}
pub use types.Kit.{Item, put, ‵, ◌$◌, !, by, move, keep, drop, rewrite, fsplit, fjoin}
pub use types.Part.{agg, whole, sub, look_in}
pub use types.Run.{look, look_raw, store, store_raw, init, forget, stop, hop, fld, from, load, lit, unit_lit, of_opd, and_then, no_more, bin, un, assigns, assigns_last, stays, leaves_loop, land, returns, free0}
pub use denote.Builtin.{u8, u16, u32}
pub use denote.Laws.{Is, shows}
pub use denote.Shadow.{pure_i}
pub use denote.Slice.{Room, slice_ty, slice_val, shr_slice_at, mut_slice_at, shr_slice_vals, mut_slice_vals}
pub use denote.Memory.{lone}
pub use denote.Index.{row, place_is, elem_out, elem_back, elem_put, looks_slice, shuts_slice, opens_slice, closes_slice}
pub use denote.Steps.{owned, heard, facts as let_go}
pub use Rattle.by_hand.proofs.Params.{Kind, dat, shr, own, hld, unit, truth}
pub use Rattle.by_hand.proofs.Thin.{Walk, Over, Callee, callee, solved}
pub use Rattle.by_hand.proofs.Steps.{begins, at, counts, relends, spans, args, calls, gone, gone_room}
pub use Rattle.by_hand.proofs.Loops.{turns, upto, tests, holds, fails, data_copy, finishes, lends_mut, returned_mut, lends_array, array_back, lends_array_mut, array_back_mut}
