use Rattle.cns_page.proofs.Added.{then}
use Rattle.cns_page.proofs.account.write_coming.Goals as goal

pub returns : goal.returns
returns c =
    then _ _ _ _ _ (rw (c.in_ok-liable.ensures, c.as_slice.ensures.value) at c.in_ok-gathered.ensures)
    (then _ _ _ _ _ (rw (c.in_ok-notices.ensures, c.as_slice-2.ensures.value) at c.in_ok-gathered-2.ensures)
    (rw (c.in_ok-trades.ensures, c.as_slice-3.ensures.value) at c.in_ok-gathered-3.ensures))
