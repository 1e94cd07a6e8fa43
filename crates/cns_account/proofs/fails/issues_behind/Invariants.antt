use Rattle.cns_account.proofs.Common.{◌≡◌, length, reverse, fold, issues_behind}
use Rattle.cns_account.specs.Fails.{with_exchange}
use Rattle.std.proofs.Common.{drop}
use Rattle.cns_account.proofs.fails.issues_behind.Given as goal

abbrev pub invariant-loop-exchange : goal.invariant-loop-exchange
invariant-loop-exchange l = issues_behind l.exchanges l.fn.issue ≡ fold with_exchange l.issues.items (drop (length l.yielded) (reverse l.exchanges))
