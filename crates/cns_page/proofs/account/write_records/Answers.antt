use Rattle.cns_page.proofs.Added.{then}
use Rattle.cns_page.proofs.account.write_records.Goals as goal

pub returns : goal.returns
returns c = record {
  exceptions = _;
  are = rw c.as_slice-2.ensures.value at c.in_ok-exceptions.ensures;
  added =
      then _ _ _ _ _ (rw (c.in_ok-bookings.ensures, c.as_slice.ensures.value) at c.in_ok-gathered.ensures)
      c.in_ok-gathered-2.ensures;
}
