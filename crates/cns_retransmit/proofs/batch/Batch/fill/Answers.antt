use Rattle.cns_retransmit.proofs.Common.{arith}
use Rattle.cns_retransmit.proofs.Charging.{fills_chargeable}
use Rattle.cns_retransmit.proofs.batch.Batch.fill.Goals as goal

pub returns-clause-chargeable : goal.returns-clause-chargeable
returns-clause-chargeable g c = grind (arith, fills_chargeable (g.S.Shorts.short_now c.args.now.now) c.args.shares c.args.money c.self.inside.liables.items c.self.invariant.once)
