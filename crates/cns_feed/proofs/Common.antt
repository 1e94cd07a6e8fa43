-- The names that most proofs of this crate cite, passed on from one place. Declares nothing.
pub use Rattle.std.proofs.Common.{if◌then◌else◌, Bool, Err, IfSome, List, None, Ok, Option, Some, [], add-one, ap, append-nil, append_assoc, arith, codes, drop, drop-cons, false, flat_map, get_or, inl, inr, length, length-append, map, min, nat_lt, pow-suc, refl, suc, sym, take, true, zero, ℕ, ◌*◌, ◌++◌, ◌+◌, ◌-◌, ◌<◌, ◌^◌, ◌∙◌, ◌∷◌, ◌≡◌, ◌≤◌}
pub use Rattle.std.proofs.KnownBytes.{Appends-kept, Appends-nil, Appends-trans, Keeps-refl}
pub use Rattle.cns_terms.proofs.Common.{Appends, Keeps, State, all_ascii_digits, bytes_eq-Decides, digits_value, err_from_is_err_and, nat_tests, parts_failed, parts_more, sum_by-append}
pub use Rattle.csv.specs.Reading.{ReadRecord, default_config, reader_state, records_from}
pub use Rattle.cns_feed.specs.Line.{Line, Record, field, line_of, position_line, trade_line}
pub use Rattle.cns_feed.specs.Records.{EndsReading, Gives, IsReady, Left, Pending, Setup, remaining_under}
pub use Rattle.cns_feed.specs.Replay.{HasRoomFor, IsUpTo, LeavesAt, Stops, log_after_line}
pub use Rattle.cns_feed.specs.Source.{GivesItem, ReadsItem, end_of, given_of, lines_left, told_at, told_of}
pub use Rattle.cns_feed.specs.Text.{batch_text, batches_text, liable_line}
pub use Rattle.cns_feed.specs.declared.fault.ReplayFault.{ReplayFault}
pub use Rattle.cns_feed.specs.declared.records.Records.{Records}
