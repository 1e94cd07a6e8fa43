use Rattle.cns_sheets.proofs.Common.{sym, full_row}
use Rattle.cns_sheets.proofs.Walked.{none_is}
use Rattle.cns_sheets.proofs.walks.next_of.Goals as goal

pub returns-else-eq-clause-next : goal.returns-else-eq-clause-next
returns-else-eq-clause-next g c = rw c.in_ok-key.ensures.steps (none_is c.args.account (full_row (c.in_ok-key.key, c.in_ok-key.columns)) _ (rw c.in_ok-key.ensures.steps at c.requires) (sym c.if-eq.ensures))
