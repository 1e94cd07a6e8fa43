use Rattle.cns_page.proofs.Common.{◌≡◌, filter, map, take, names}
use Rattle.cns_page.proofs.account.own_exceptions.Given as goal

abbrev pub invariant-loop-finding : goal.invariant-loop-finding
invariant-loop-finding l = map (λ c. c.finding.now) l.own.items ≡ filter (names l.fn.account) (take l.finding-index l.findings)
