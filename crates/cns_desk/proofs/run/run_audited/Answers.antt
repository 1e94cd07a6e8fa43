use Rattle.cns_desk.proofs.Joined.{fresh_all}
use Rattle.cns_desk.proofs.run.run_audited.Goals as goal

pub gather-requires-clause-fresh : goal.gather-requires-clause-fresh
gather-requires-clause-fresh g c κs within = fresh_all c.len.result c.in_ok-desk.seats.items c.in_ok-desk.ensures.seats
