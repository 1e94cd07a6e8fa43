use Rattle.cns_book.proofs.Common.{arith, nat_tests, ints}
use Rattle.cns_book.proofs.ClosedDaysSearch.{sheet_at}
use Rattle.cns_book.proofs.closed_days.ClosedDays.find.Goals as goal

pub returns-in-Ok : goal.returns-in-Ok
returns-in-Ok g c = grind (arith, nat_tests, ints, sheet_at)
