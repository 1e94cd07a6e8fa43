use Rattle.cns_sheets.proofs.Common.{sym, find_at, find_gap, nat_list_cmp_total}
use Rattle.cns_sheets.proofs.quotes.Quotes.price.Goals as goal

pub returns-in-Ok-clause-price : goal.returns-in-Ok-clause-price
returns-in-Ok-clause-price c = rw (← c.self.view_is) (sym (find_at nat_list_cmp_total _ _ _ c.index-self-at.result c.self.invariant c.in-Ok.ensures.bound (c.in-Ok.ensures.found c.index-self-at.result)))

pub returns-in-Err-clause-price : goal.returns-in-Err-clause-price
returns-in-Err-clause-price c = rw (← c.self.view_is) (sym (find_gap nat_list_cmp_total _ _ _ c.in-Err.ensures.absent.0 c.in-Err.ensures.absent.1))
