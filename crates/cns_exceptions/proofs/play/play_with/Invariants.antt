use Rattle.cns_exceptions.proofs.Common.{◌≡◌, List, Line, IsReady, Pending, known}
use Rattle.cns_exceptions.proofs.PlayLemmas.{Along}
use Rattle.cns_exceptions.proofs.play.play_with.Given as goal

abbrev pub invariant-loop-turn : goal.invariant-loop-turn
invariant-loop-turn g l = record {
  ready : IsReady l.records;
  count : l.survey.records ≡ l._turn;
  along : (all : List Line) → Pending g.R.Read.remaining l.fn.records all
      → Along g.R.Read.remaining l.records l.watched l.fn.book.log l.book.log (known l.fn.survey) l.survey l.lines.items l._turn all;
}
