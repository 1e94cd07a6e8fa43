use Rattle.cns_day.proofs.Common.{take, AreLater}
use Rattle.cns_day.proofs.due.later_shares.Given as goal

abbrev pub invariant-loop-due : goal.invariant-loop-due
invariant-loop-due l = AreLater (take l.due-index l.dues) l.later
