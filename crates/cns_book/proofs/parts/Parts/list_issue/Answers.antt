use Rattle.cns_book.proofs.Common.{sym, subst, Follows, arith}
use Rattle.cns_book.proofs.ListingSteps.{issue_listed}
use Rattle.cns_book.proofs.parts.Parts.list_issue.Goals as goal

pub returns-clause-step : goal.returns-clause-step
returns-clause-step g c L f = issue_listed L _ c.args.listing c.list.new.self (subst (Follows L) (sym c.self.view_is) f) c.value.ensures.range (grind arith) c.in_ok-list.ensures.price c.in_ok-list.ensures.retired
