use Rattle.cns_notices.proofs.Common.{sym, rules, arith}
use Rattle.cns_notices.proofs.Places.{forward, range_of_issue}
use Rattle.cns_notices.proofs.latest.Latest.of_issue.Goals as goal

pub range-requires : goal.range-requires
range-requires g c = grind (arith, forward)

pub returns-clause-all : goal.returns-clause-all
returns-clause-all g c = grind (arith, range_of_issue c.args.cusip)

pub returns-clause-found : goal.returns-clause-found
returns-clause-found g c k d lt = rw (sym c.self.view_is, ← c.in_ok-numbers.ensures.value) ((c.range.ensures.in_range (search rules)).0 k d lt).1
