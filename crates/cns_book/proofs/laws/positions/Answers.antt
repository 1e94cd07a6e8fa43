use Rattle.cns_terms.proofs.SheetSums.{positions_balanced}
use Rattle.cns_book.proofs.laws.positions.Goals as goal

pub returns : goal.returns
returns c = positions_balanced
