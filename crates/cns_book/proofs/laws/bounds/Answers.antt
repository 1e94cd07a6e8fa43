use Rattle.cns_book.proofs.Common.{bounds}
use Rattle.cns_book.proofs.laws.bounds.Goals as goal

pub returns : goal.returns
returns c = bounds
