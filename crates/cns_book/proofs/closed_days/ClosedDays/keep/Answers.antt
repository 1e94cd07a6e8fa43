use Rattle.cns_book.proofs.Common.{refl}
use Rattle.cns_book.proofs.closed_days.ClosedDays.keep.Goals as goal

pub same-self : goal.same-self
same-self g c = refl
