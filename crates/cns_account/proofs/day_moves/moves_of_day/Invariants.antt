use Rattle.cns_account.proofs.Common.{take, AreMoves, looked_at}
use Rattle.cns_account.proofs.day_moves.moves_of_day.Given as goal

abbrev pub invariant-loop-line : goal.invariant-loop-line
invariant-loop-line l = AreMoves l.fn.before l.fn.day (looked_at l.book.log.history) (take l.line-index l.lines) l.moves
