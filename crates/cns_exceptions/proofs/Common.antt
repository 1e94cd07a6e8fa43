-- The names that most proofs cite, passed on from one place. Declares nothing.
pub use Rattle.std.proofs.Common.{List, None, Option, Some, [], add-one, ap, append-nil, append_assoc, arith, drop, false, filter_map, get_or, inl, inr, length, length-append, map, refl, reverse, set, sym, take, ℕ, ◌++◌, ◌+◌, ◌-◌, ◌<◌, ◌==◌, ◌^◌, ◌∙◌, ◌∷◌, ◌≡◌, ◌≤◌}
pub use Rattle.std.proofs.lemmas.Bool.{ne_eqb}
pub use Rattle.std.proofs.lemmas.List.{length-map, map-append, with_items_is}
pub use Rattle.std.specs.List.{flat_map}
pub use Rattle.cns_account.proofs.Gathered.{entries_end, entry_more}
pub use Rattle.cns_book.specs.Log.{Log, state_of}
pub use Rattle.cns_book.specs.Shown.{entry_at}
pub use Rattle.cns_feed.proofs.PlayLemmas.{log_after-append, state_of-after}
pub use Rattle.cns_feed.specs.Line.{Line}
unfoldable pub use Rattle.cns_feed.specs.Output.{state_after}
pub use Rattle.cns_feed.specs.Output.{state_after_line}
pub use Rattle.cns_feed.specs.Records.{IsReady, Pending}
unfoldable pub use Rattle.cns_feed.specs.Replay.{log_after}
pub use Rattle.cns_feed.specs.Replay.{log_after_line}
pub use Rattle.cns_terms.specs.Common.{State}
pub use Rattle.cns_terms.specs.declared.command.Trade.{Trade}
pub use Rattle.cns_terms.specs.declared.history.Taken.{Taken}
pub use Rattle.cns_exceptions.specs.Exceptions.{fact_text}
unfoldable pub use Rattle.cns_exceptions.specs.Counts.{counts_below}
pub use Rattle.cns_history.specs.Entries.{looked_at}
pub use Rattle.cns_exceptions.specs.Counts.{count_at, count_shown, counted}
unfoldable pub use Rattle.cns_exceptions.specs.Accepted.{or_first}
pub use Rattle.cns_exceptions.specs.Accepted.{or_entry, with_entry, with_found, with_trade}
unfoldable pub use Rattle.cns_exceptions.specs.Survey.{noted_all}
pub use Rattle.cns_exceptions.specs.Survey.{Came, Known, Takes, known, looked_back, looked_for, noted, replied, told, wanted}
pub use Rattle.cns_exceptions.specs.declared.survey.Survey.{Survey}
pub use Rattle.cns_history.specs.declared.play.Watched.{Watched}
pub use Rattle.cns_terms.specs.declared.command.Command.{Command}
pub use Rattle.cns_exceptions.specs.declared.finding.Accepted.{Accepted}
pub use Rattle.cns_exceptions.specs.declared.finding.Finding.{Finding}
pub use Rattle.cns_exceptions.specs.declared.finding.Outcome.{Outcome}
