use Rattle.cns_sheets.proofs.Common.{sym, find_at, find_gap, nat_list_cmp_total}
use Rattle.cns_sheets.proofs.prices.price_on.Goals as goal

pub returns-in-Ok : goal.returns-in-Ok
returns-in-Ok c = sym (find_at nat_list_cmp_total _ _ _ c.index-prices-at.result c.requires c.in-Ok.ensures.bound (c.in-Ok.ensures.found c.index-prices-at.result))

pub returns-in-Err : goal.returns-in-Err
returns-in-Err c = sym (find_gap nat_list_cmp_total _ _ _ c.in-Err.ensures.absent.0 c.in-Err.ensures.absent.1)
