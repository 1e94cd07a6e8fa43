use Rattle.cns_book.proofs.LawCloseCounts.{close_counts}
use Rattle.cns_book.proofs.laws.close_counts.Goals as goal

pub returns : goal.returns
returns c = close_counts
