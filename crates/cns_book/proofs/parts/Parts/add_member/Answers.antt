use Rattle.cns_book.proofs.Common.{sym, subst, Follows, arith}
use Rattle.cns_book.proofs.ListingSteps.{member_added}
use Rattle.cns_book.proofs.parts.Parts.add_member.Goals as goal

pub returns-clause-step : goal.returns-clause-step
returns-clause-step g c L f = member_added L _ c.args.member c.insert.new.self (subst (Follows L) (sym c.self.view_is) f) c.account-account.ensures.range.1 (grind (arith, c.is_account.ensures L f)) (rw (← c.account-account.ensures.value) c.in_ok-insert.ensures.ok)
