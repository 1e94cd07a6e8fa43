use Rattle.cns_book.proofs.Common.{sym, subst, Follows}
use Rattle.cns_book.proofs.ListingSteps.{issue_current, price_set}
use Rattle.cns_book.proofs.parts.Parts.set_price.Goals as goal

pub set-requires : goal.set-requires
set-requires g c = let both = rw (← c.self.view_is) at (issue_current c.requires.activities c.args.self.now c.args.listing.issue c.issue_refusal.result c.requires.follows (c.issue_refusal.ensures c.requires.activities c.requires.follows) c.in_default.is) in record { listed = both.0; current = both.1 }

pub returns-clause-step : goal.returns-clause-step
returns-clause-step g c L f = price_set L _ c.args.listing c.set.new.self c.issue_refusal.result (subst (Follows L) (sym c.self.view_is) f) c.value.ensures.range (rw (← c.self.view_is) at (c.issue_refusal.ensures L f)) c.in_default.is c.set.ensures.price c.set.ensures.retired
