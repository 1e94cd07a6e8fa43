use Rattle.cns_page.proofs.Added.{then}
use Rattle.cns_page.proofs.page.write_coming.Goals as goal

pub returns : goal.returns
returns c = record {
  rising = c.in_ok-due.ensures.rising;
  added =
      then _ _ _ _ _ (rw c.as_slice.ensures.value at c.in_ok-table.ensures)
      (then _ _ _ _ _ (rw c.as_slice-2.ensures.value at c.in_ok-table-2.ensures)
      (then _ _ _ _ _ (rw c.in_ok-due.ensures.rows at c.in_ok-gathered.ensures)
      (then _ _ _ _ _ (rw c.as_slice-3.ensures.value at c.in_ok-table-3.ensures)
      (rw (c.in_ok-days.ensures, c.last_closes.ensures, c.as_slice-4.ensures.value) at c.in_ok-gathered-2.ensures))));
}
