use Rattle.cns_book.proofs.Common.{answers_always, arc_value, rules}
use Rattle.cns_book.proofs.ClosedDaysSearch.{found_at, found_nowhere}
use Rattle.cns_book.proofs.closed_days.place.Goals as goal

pub returns-clause-found : goal.returns-clause-found
returns-clause-found g c = found_at arc_value c.args.date c.args.sheets.now _ (c.binary_search_by_key.ensures.position (λ a. (arc_value a).date) (answers_always _ _ _ (λ f a r h called. search rules)))

pub returns-clause-absent : goal.returns-clause-absent
returns-clause-absent g c = found_nowhere arc_value c.args.date c.args.sheets.now _ c.requires (c.binary_search_by_key.ensures.position (λ a. (arc_value a).date) (answers_always _ _ _ (λ f a r h called. search rules)))
