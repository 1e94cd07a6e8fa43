use Rattle.cns_book.proofs.Common.{◌∙◌, sym, subst, Follows}
use Rattle.cns_book.proofs.ListingSteps.{dividend_declared}
use Rattle.cns_book.proofs.parts.Parts.declare_dividend.Goals as goal

pub returns-clause-step : goal.returns-clause-step
returns-clause-step g c L f = dividend_declared L _ c.args.declared.now c.declare.new.self (subst (Follows L) (sym c.self.view_is) f) c.value.ensures.range.1 (rw (← c.self.view_is) at (sym (c.dividend_refusal.ensures L f) ∙ c.in_default.is)) c.in_ok-declare.ensures.ok
