-- The names that most proofs of this crate cite, passed on from one place. Declares nothing.
pub use Rattle.std.proofs.Common.{Bool, Err, IfErr, IfSome, IsUtf8, List, None, Ok, OnOk, Option, Result, Some, [], add-one, ap, append_assoc, ap₂, arith, codes, decimal, drop, drop-cons, false, get_or, if◌then◌else◌, inl, inr, length, length-append, map, nat_le, not, option_map, option_to_list, pos, refl, rules, slice_index, string_bytes, suc, sym, true, vec_len, zero, ℕ, ◌&&◌, ◌*◌, ◌++◌, ◌+◌, ◌-◌, ◌<◌, ◌^◌, ◌∙◌, ◌∷◌, ◌≡◌, ◌≤◌}
pub use Rattle.std.proofs.KnownBytes.{Appends-kept, Appends-trans, Keeps-trans}
pub use Rattle.std.proofs.lemmas.Result.{IfOk-weaker}
pub use Rattle.clap.specs.Words.{App, Shape, app_of, found_of, is_simple, is_simple_and_free, rule_of, with_rule, with_subcommand}
pub use Rattle.cns_desk.specs.Logged.{Logged, empty_logged}
pub use Rattle.cns_desk.specs.declared.end.End.{End}
pub use Rattle.cns_feed.specs.Output.{lines_of, output, state_after, texts}
pub use Rattle.cns_terms.proofs.Common.{Appends, AppendsFront, Day, Keeps, State, count, day, err_from_is_err_and, front_longer, journal_of, map-append, parts_failed, parts_more}
pub use Rattle.cns_terms.specs.Common.{Told, digits_value, all_ascii_digits}
pub use Rattle.serde_json.specs.View.{items_of, view}
pub use Rattle.serde_json.specs.Written.{compact_text, has_float, items_have_float}
pub use Rattle.cns_program.specs.Days.{statements_text, text_of_one}
pub use Rattle.cns_program.specs.Ends.{FailsReplay, ReadEach, Reads, told_by}
pub use Rattle.cns_program.specs.Lines.{IsTold, end_line, end_lines}
unfoldable pub use Rattle.cns_program.specs.Tally.{tally_of}
pub use Rattle.cns_program.specs.Tally.{counts_to, lines_to, total_text, whole, workers_of}
unfoldable pub use Rattle.cns_program.specs.CommandLine.{program_line}
pub use Rattle.cns_program.specs.CommandLine.{words_rule}
