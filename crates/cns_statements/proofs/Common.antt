-- The names that most proofs of this crate cite, passed on from one place. Declares nothing.
pub use Rattle.std.proofs.Common.{List, Vec, [], append-nil, append_assoc, arith, drop, flat_map, length, map, refl, rules, slice_index_or, sym, take, vec_len, ℕ, ◌++◌, ◌+◌, ◌<◌, ◌∷◌, ◌≡◌}
pub use Rattle.std.proofs.lemmas.List.{drop_more, nil_from_length}
pub use Rattle.std.specs.declared.alloc.Global.{Global}
pub use Rattle.cns_terms.proofs.Common.{Account, Appends, DaySheet, PromisedHandle, err_from_is_err_and, front_longer, map-append, parts_failed, parts_more}
pub use Rattle.cns_statements.specs.Packs.{accounts_after, accounts_of, statement_on}
pub use Rattle.cns_statements.specs.Promised.{AllAre, told, told_by}
pub use Rattle.cns_statements.specs.Texts.{row_line, rows_text, stated_line, stated_of}
