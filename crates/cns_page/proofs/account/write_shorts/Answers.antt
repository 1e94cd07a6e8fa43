use Rattle.cns_page.proofs.Added.{then}
use Rattle.cns_page.proofs.account.write_shorts.Goals as goal

pub returns : goal.returns
returns c =
    then _ _ _ _ _ (rw (c.in_ok-dividends.ensures, c.deref.ensures) at c.in_ok-gathered.ensures)
    (then _ _ _ _ _ (rw (c.in_ok-due.ensures, c.deref-2.ensures) at c.in_ok-gathered-2.ensures)
    (rw c.in_ok-fails.ensures at c.in_ok-gathered-3.ensures))
