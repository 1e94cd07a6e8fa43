use Rattle.cns_history.proofs.Common.{◌≡◌, ◌++◌, flat_map, map, place, take}
use Rattle.cns_history.proofs.everywhere.each.Given as goal

abbrev pub invariant-loop-account : goal.invariant-loop-account
invariant-loop-account l = l.places.items ≡ flat_map (λ a. map (place a) l.issues) (take l.account-index l.accounts)

abbrev pub invariant-loop-issue : goal.invariant-loop-issue
invariant-loop-issue l =
    l.places.items ≡ flat_map (λ a. map (place a) l.issues) (take l.account-index l.accounts) ++ map (place l.account) (take l.issue-index l.issues)
