use Rattle.cns_sheets.proofs.Common.{append_assoc, arith, filter-append, is_lt, key_cmp, keys_total, map-append, not, tied_itself}
use Rattle.cns_sheets.proofs.Weaving.{higher_past}
use Rattle.cns_sheets.proofs.Entries.{find_if}
use Rattle.cns_sheets.proofs.cutting.push_holding.Goals as goal

pub returns-clause-rows : goal.returns-clause-rows
returns-clause-rows g c = grind (arith, append_assoc, map-append, filter-append, find_if (λ q. not (is_lt (key_cmp q c.args.key.now))) c.args.key.now c.args.paid.now, tied_itself keys_total c.args.key.now, higher_past c.args.key.now c.args.paid.now)
