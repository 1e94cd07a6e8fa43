-- The names that most proofs of this crate cite, passed on from one place. Declares nothing.
pub use Rattle.std.proofs.Common.{Bool, IfSome, List, None, Option, Some, [], ap, append_assoc, arith, drop, eq-or-lt_of_le, find, inl, inr, is_none, length, length-append, not, option_map, refl, rules, slice_get, slice_index_or, subst, suc, sym, true, unwrap_or, vec_len, ℕ, ◌++◌, ◌+◌, ◌-◌, ◌<◌, ◌↔◌, ◌∙◌, ◌∷◌, ◌≡◌, ◌≤◌, ◌⊎◌}
pub use Rattle.cns_terms.proofs.Common.{AllByRecursion, Day, DaySheet, IsSend, Journal, PromisedHandle, Told, accepted, answer_to, cases_lt, count, crosses, date, day_sheet, first_refusal, is_same_day, journal, option_map_or, sendable, sheet_on, slice_get_read, slice_get_within, statement}
pub use Rattle.cns_terms.specs.declared.worker.Worker.{Worker}
pub use Rattle.cns_desk.specs.Logged.{Logged}
pub use Rattle.cns_desk.specs.Parts.{DiffersFirst, Fits, IsPart, SameAt, part_of}
pub use Rattle.cns_desk.specs.Promised.{promised}
pub use Rattle.cns_desk.specs.Seats.{AreFresh, IsFresh, Sitting, counts_of, fresh}
pub use Rattle.cns_desk.specs.Worked.{Adds, HaveRun, Logs, Steps, Worked, commands_in, lines_in}
pub use Rattle.cns_desk.specs.declared.log.LogItem.{LogItem}
pub use Rattle.cns_terms.specs.declared.command.Command.{Command}
