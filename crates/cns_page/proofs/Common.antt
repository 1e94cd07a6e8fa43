-- The names that most proofs cite, passed on from one place. Declares nothing.
pub use Rattle.std.proofs.Common.{Err, IfSome, List, None, Ok, OnOk, Option, Result, Some, ap, append_assoc, arith, drop, filter, get_or, length, map, min, refl, subst, sym, take, ℕ, ◌++◌, ◌+◌, ◌-◌, ◌<◌, ◌==◌, ◌^◌, ◌∙◌, ◌∷◌, ◌≡◌}
pub use Rattle.std.proofs.lemmas.Grind.{common_steps, flat_map-append}
pub use Rattle.std.proofs.lemmas.List.Sums.{fold-append}
pub use Rattle.std.proofs.lemmas.List.{drop_more}
pub use Rattle.std.proofs.lemmas.Result.{on_ok_weaker}
pub use Rattle.cns_terms.specs.Common.{Account}
pub use Rattle.cns_exceptions.specs.Survey.{names}
pub use Rattle.cns_page.specs.Account.{IsOwnPage}
pub use Rattle.cns_page.specs.Files.{KeptPages, and_kept}
pub use Rattle.cns_page.specs.Folder.{KeepsOwn}
pub use Rattle.cns_page.specs.Page.{link_text}
pub use Rattle.std.specs.List.{flat_map}
