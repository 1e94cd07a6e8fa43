use Rattle.cns_page.proofs.Added.{then}
use Rattle.cns_page.proofs.account.write_marks.Goals as goal

pub returns : goal.returns
returns c = then _ _ _ _ _ c.in_ok-table.ensures (rw c.in_ok-marks.ensures at c.in_ok-gathered.ensures)
