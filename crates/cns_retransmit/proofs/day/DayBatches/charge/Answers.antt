use Rattle.cns_retransmit.proofs.Common.{◌≡◌, set, arith, charged_in}
use Rattle.cns_retransmit.proofs.Sought.{charged_rise, nothing_charged, written_charged}
use Rattle.cns_retransmit.proofs.day.DayBatches.charge.Goals as goal

pub invariant_of-self : goal.invariant_of-self
invariant_of-self g c =
    let charges : set c.self.inside.batches.items c.in-Ok.at c.charge.new.self ≡ charged_in c.args.issue c.args.fills.now c.self.inside.batches.items = grind (arith, written_charged) in
    rw charges (charged_rise c.args.issue c.args.fills.now c.self.inside.batches.items c.self.invariant)

pub returns-in_default : goal.returns-in_default
returns-in_default g c = let gap = rw c.as_slice.ensures.value at c.in_default.ensures.absent in rw (← c.self.view_is) (nothing_charged _ _ _ c.args.fills.now gap.0 gap.1)
