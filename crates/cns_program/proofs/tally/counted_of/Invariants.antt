use Rattle.cns_program.proofs.Common.{◌≡◌, ◌≤◌, ◌*◌, map, view, counts_to, lines_to, whole, workers_of}
use Rattle.cns_program.proofs.tally.counted_of.Given as goal

abbrev pub invariant-loop-place : goal.invariant-loop-place
invariant-loop-place l = record {
  end : l.place-end ≡ workers_of l.logs;
  counts : map view l.counts.items ≡ map whole (counts_to l.book.log l.place);
  lines : l.lines ≡ lines_to l.logs l.place;
  small : l.lines ≤ l.place * 4294967295;
}
