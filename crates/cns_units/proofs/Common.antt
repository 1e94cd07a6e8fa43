-- The names that most proofs cite, passed on from one place. Declares nothing.
pub use Rattle.std.proofs.Common.{Bool, FitsSigned, List, None, Option, Result, Some, [], add-one, add-zero, ap, append-nil, append_assoc, arith, cond, drop, drop-cons, eqb, false, get_or, length, length-append, length-drop, nat_eq, nat_le, not, option_map, pos, refl, suc, sym, take, take-append-drop, true, zero, ℕ, ℤ, ◌%◌, ◌&&◌, ◌*◌, ◌++◌, ◌+◌, ◌-◌, ◌<◌, ◌∙◌, ◌∷◌, ◌≡◌, ◌≤◌, zero-add}
pub use Rattle.std.specs.Prelude.{slice_index, unsigned_abs}
pub use Rattle.std.proofs.KnownBytes.{Appends-trans}
pub use Rattle.std.proofs.lemmas.Int.{ints, to_z-of_z}
pub use Rattle.std.proofs.lemmas.Result.{err_from_is_err_and}
pub use Rattle.std.specs.Cmp.Lexicographic.{slice_cmp}
pub use Rattle.std.specs.Io.KnownBytes.{Appends, Keeps}
pub use Rattle.std.specs.Ordering.{int_eq, nat_cmp, ordering_then}
unfoldable pub use Rattle.cns_units.specs.Cusip.{sum_of}
pub use Rattle.cns_units.specs.Cusip.{IsCusip, after_value, character_value, last_fault, plus, weight}
pub use Rattle.cns_units.specs.Output.{AppendsFront, Writes}
pub use Rattle.cns_units.specs.Words.{word_text, words_text}
pub use Rattle.std.proofs.lemmas.List.{drop_all, length-take}
pub use Rattle.std.specs.List.{AllByRecursion, flat_map}
pub use Rattle.std.proofs.lemmas.Bool.Decides.{Decides-int_eq, nat_tests}
