use Rattle.cns_feed.proofs.Common.{◌-◌, List, None, Line, IsReady, Pending, HasRoomFor, IsUpTo}
use Rattle.cns_feed.proofs.PlayLemmas.{Along}
use Rattle.cns_feed.proofs.loader.take_all.Given as goal

abbrev pub invariant-loop-turn : goal.invariant-loop-turn
invariant-loop-turn g l = record {
  counts : IsUpTo l.summary l._turn;
  ready : IsReady l.records;
  room : HasRoomFor l.book.log (l.fn.most - l._turn);
  along : (all : List Line) → Pending g.R.Read.remaining l.fn.records all
      → Along g.R.Read.remaining l.records l.fn.book.log l.book.log l.summary None None l._turn all;
}
