use Rattle.cns_trades.proofs.Common.{sym, no_sides}
use Rattle.cns_trades.proofs.Summed.{has_put, opened_at}
use Rattle.cns_trades.proofs.sides.SideSums.open.Goals as goal

pub returns-clause-same : goal.returns-clause-same
returns-clause-same g c = rw (sym c.self.view_is) (opened_at _ _ c.args.key c.in_ok-insert.ensures.updates.0 (sym c.if-contains_key.ensures))

pub returns-clause-others : goal.returns-clause-others
returns-clause-others g c = rw (sym c.self.view_is) (has_put _ _ c.args.key no_sides c.in_ok-insert.ensures.updates.0)
