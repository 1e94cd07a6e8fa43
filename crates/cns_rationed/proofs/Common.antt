-- The names that most proofs cite, passed on from one place. Declares nothing.
pub use Rattle.std.proofs.Common.{Bor, Err, List, Ok, [], ap, false, refl, true, w64, ℕ, ◌+◌, ◌<◌, ◌^◌, ◌∷◌, ◌≡◌}
pub use Rattle.std.proofs.alloc.Calls.{Al, Answer, Answer-Ok, Answer-err, Answer-typed, Answered, Gives, Gives-Gives, Gives-goes, Takes, Takes-gives, Takes-goes, answer_val, answers, at_gives, at_takes, gives_key, seen, takes_key, token, α}
pub use base.Fml.{Lft, Share, ffalse, flft, froom, fsep, ftrue}
pub use base.Logic.{SProp, ent, ex, guard, id⊢, never_e, sep}
pub use contract.BorrowLft.{⊑_trans, ◌⊑◌}
pub use contract.Monad.{Fun, fact}
unfoldable pub use contract.Running.{tables, tables_of}
pub use denote.Builtin.{RawPtr, RefOf, bool, unit, usize}
pub use denote.Exit.{yes}
pub use denote.Opens.{unhide}
pub use denote.Param.{bounded, param}
pub use denote.Plain.{uint_Tells, uint_vals}
pub use denote.RattleType.{RattleType, owns}
pub use denote.RawPtr.{Ptr, block_ptr, null_ptr, ptr_val, rawptr_Tells, rawptr_vals}
pub use denote.Ref.{shr_vals}
pub use denote.Signature.{Slot, plain, types_at}
pub use denote.Steps.{heard, nothing, only}
pub use denote.Triple.Call.{calls_at}
pub use denote.Triple.Clauses.{Clauses, Ended}
pub use denote.Triple.Spec.{triple_of}
pub use denote.Triple.Statement.{Contract, Triple}
pub use denote.Triple.Table.{cited, entered}
pub use denote.Triple.Walked.{Goes-dropped, Stays, ends_at, stay_dropped, walk_Meets, walk_of, walked}
pub use mathlib.Core.Bool.{Bool}
pub use mir.MapTy.{inst_fn}
pub use mir.Syntax.{Args, Fn, Ty, a_type, dcons, dnil}
pub use mir.Val.{Val, vbool, vint, vptr, vunit}
pub use prog.Memory.{Memory, align, capped, size, up}
pub use prog.Routine.{Routine}
pub use prog.Wp.{Tables, WpFn}
pub use seplogic.Ra.Ura.{Ura}
pub use sound.WpLaws.{WpFn-mono, fm_of}
pub use types.ByLocal.{alloc_all, env, free_all, get, lands_as, look_at, pass_all, sets, through}
pub use types.Kit.{ !, Item, at_ret, await, by, check, done, feq_i, feq_l, fjoin, fsplit, given, join, keep, later, learn, move, pick, qed, raw, show, some, split, split3, suffices, updating, use0, use1, use2, ‵, ◌$◌, ◌∵◌, ◌⊛◌, now as at_once}
pub use types.Logic.{Logic, sem}
pub use types.Run.{addr, and_then, branches, enter, exec, first, fld, lit, no_more, of_opd, returns, returns_within, skips, stop, unit_lit}
