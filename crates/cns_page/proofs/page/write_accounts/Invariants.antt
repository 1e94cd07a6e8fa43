use Rattle.cns_page.proofs.Common.{◌≡◌, ◌++◌, take, flat_map, link_text}
use Rattle.cns_page.proofs.page.write_accounts.Given as goal

abbrev pub invariant-loop-account : goal.invariant-loop-account
invariant-loop-account l = l.out.items ≡ l.fn.out.items ++ flat_map (link_text l.date) (take l.account-index l.accounts)
