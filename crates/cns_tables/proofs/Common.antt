-- The names that most proofs cite, passed on from one place. Declares nothing.
pub use Rattle.std.proofs.lemmas.Bool.Decides.{nat_tests}
pub use Rattle.std.proofs.Common.{rules, suc, map, ◌≢◌, Bool, Err, List, Ok, OnOk, Result, [], add-one, ap, append_assoc, arith, drop, take, drop-cons, false, get_or, length, length-drop, refl, true, ℕ, ◌&&◌, ◌++◌, ◌+◌, ◌-◌, ◌<◌, ◌==◌, ◌∙◌, ◌∷◌, ◌≡◌}
pub use Rattle.std.proofs.lemmas.List.{drop_all, drop_more}
pub use Rattle.std.specs.List.{flat_map, list_all}
pub use Rattle.cns_tables.specs.Escape.{escaped, escaped_byte, is_plain}
pub use Rattle.cns_tables.specs.Grouped.{digit_text, grouped}
unfoldable pub use Rattle.cns_tables.specs.Pieces.{filled}
pub use Rattle.cns_tables.specs.Pieces.{piece_text}
unfoldable pub use Rattle.cns_tables.specs.Tables.{none_of, table_text}
pub use Rattle.cns_tables.specs.Tables.{cell_of, some_of}
pub use Rattle.cns_tables.specs.declared.table.TheConstants.{COLUMN}
