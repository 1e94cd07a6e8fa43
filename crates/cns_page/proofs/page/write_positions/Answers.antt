use Rattle.cns_page.proofs.Added.{then}
use Rattle.cns_page.proofs.page.write_positions.Goals as goal

pub returns : goal.returns
returns c = record {
  issues = _;
  are = rw c.deref-2.ensures at c.in_ok-issues.ensures;
  added =
      then _ _ _ _ _ (rw (c.in_ok-lines.ensures, c.deref.ensures) at c.in_ok-gathered.ensures)
      (then _ _ _ _ _ c.in_ok-gathered-2.ensures (rw c.as_slice.ensures.value at c.in_ok-table.ensures));
}
