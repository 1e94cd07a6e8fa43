use Rattle.cns_retransmit.proofs.Common.{sym}
use Rattle.cns_retransmit.proofs.Sought.{batch_missing}
use Rattle.cns_retransmit.proofs.day.DayBatches.find.Goals as goal

pub returns-in-Err : goal.returns-in-Err
returns-in-Err g c = let gap = rw c.as_slice.ensures.value at c.in-Err.ensures.absent in rw (← c.self.view_is) (sym (batch_missing _ _ _ gap.0 gap.1))
