use Rattle.cns_account.proofs.Common.{◌≡◌, fold, Key, looked_at, unmoved, with_taken}
use Rattle.cns_account.specs.Moves.{moves_at}
use Rattle.cns_account.proofs.day_moves.settled.Given as goal

abbrev pub invariant-loop-entry : goal.invariant-loop-entry
invariant-loop-entry l =
    (k : Key) → fold (with_taken l.before l.day k) unmoved (looked_at l.book.log.history) ≡ fold (with_taken l.before l.day k) (moves_at l.moves k) l.entry-iterator
