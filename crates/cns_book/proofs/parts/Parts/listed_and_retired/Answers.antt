use Rattle.cns_book.proofs.Common.{arith}
use Rattle.cns_book.proofs.parts.Parts.listed_and_retired.Goals as goal

pub returns-in-Some-clause-retired : goal.returns-in-Some-clause-retired
returns-in-Some-clause-retired g c L f = grind arith
