use Rattle.cns_desk.proofs.Common.{◌≡◌, ◌+◌, length, vec_len, counts_of}
use Rattle.cns_desk.proofs.kept.Kept.finish.Given as goal

-- what is gathered and what is left are all
abbrev pub invariant-loop-seat : goal.invariant-loop-seat
invariant-loop-seat g l = record {
  parts : l.gathered.parts + vec_len l.seats ≡ vec_len l.fn.seats;
  amount : l.gathered.amount + counts_of l.seats.items ≡ counts_of l.fn.seats.items;
  book : l.book.log ≡ l.fn.self;
  total : l.total.total ≡ length l.fn.self.history;
}

abbrev pub decreases-loop-seat : goal.decreases-loop-seat
decreases-loop-seat g l = goal.left-loop-seat g l
