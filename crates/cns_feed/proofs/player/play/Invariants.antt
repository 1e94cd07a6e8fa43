use Rattle.cns_feed.proofs.Common.{◌-◌, List, Line, IsReady, Pending, HasRoomFor, IsUpTo}
use Rattle.cns_feed.proofs.PlayLemmas.{Along}
use Rattle.cns_feed.proofs.player.play.Given as goal

abbrev pub invariant-loop-turn : goal.invariant-loop-turn
invariant-loop-turn g l = record {
  counts : IsUpTo l.summary l._turn;
  ready : IsReady l.records;
  room : HasRoomFor l.book.log (l.fn.most - l._turn);
  along : (all : List Line) → Pending g.R.Read.remaining l.fn.records all
      → Along g.R.Read.remaining l.records l.fn.book.log l.book.log l.summary (g.W.Write.contents l.fn.writer) (g.W.Write.contents l.writer) l._turn all;
}
