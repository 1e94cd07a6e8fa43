use Rattle.cns_terms.proofs.Amounts.{amounts}
use Rattle.cns_book.proofs.laws.amounts.Goals as goal

pub returns : goal.returns
returns c = amounts
