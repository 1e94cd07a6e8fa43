use Rattle.cns_page.proofs.Common.{◌≡◌, ◌==◌, filter, map, take}
use Rattle.cns_page.specs.Account.{fail_at}
use Rattle.cns_page.proofs.account.own_fails.Given as goal

abbrev pub invariant-loop-short : goal.invariant-loop-short
invariant-loop-short l = l.fails.items ≡ map (fail_at l.day) (filter (λ s. s.row.account == l.account) (take l.short-index l.shorts))
