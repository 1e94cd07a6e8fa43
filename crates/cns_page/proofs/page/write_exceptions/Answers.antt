use Rattle.cns_page.proofs.Added.{then}
use Rattle.cns_page.proofs.page.write_exceptions.Goals as goal

pub returns : goal.returns
returns c = record {
  reasons = _;
  are = rw c.as_slice-2.ensures.value at c.in_ok-reasons.ensures;
  added = then _ _ _ _ _ (rw c.as_slice.ensures.value at c.in_ok-table.ensures) c.in_ok-gathered.ensures;
}
