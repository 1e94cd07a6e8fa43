use Rattle.cns_book.proofs.Common.{arith}
use Rattle.cns_book.proofs.ClosedDaysSearch.{found_as_of}
use Rattle.cns_book.proofs.closed_days.ClosedDays.as_of.Goals as goal

pub returns : goal.returns
returns g c = grind (arith, found_as_of)
