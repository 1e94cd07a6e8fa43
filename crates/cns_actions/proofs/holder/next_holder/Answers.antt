use Rattle.cns_actions.proofs.Common.{arith, sym}
use Rattle.cns_actions.proofs.Skipping.{fewer_above, next_left}
use Rattle.cns_actions.proofs.holder.next_holder.Goals as goal

pub returns-in-Some-holder_at-clause-next : goal.returns-in-Some-holder_at-clause-next
returns-in-Some-holder_at-clause-next g c =
    grind (arith, next_left (g.P.Positions.rows c.args.positions.now) c.requires c.args.issue.now c.loop-row.passed (c.in-Some.row, c.in-Some.field-0-1) c.past.result c.past.ensures.account _ c.in-Some.ensures (sym c.if-is_new.ensures))

pub loop-row-smaller-in_default-holder_at : goal.loop-row-smaller-in_default-holder_at
loop-row-smaller-in_default-holder_at g c =
    fewer_above (g.P.Positions.rows c.args.positions.now) c.requires c.loop-row.passed (c.in-Some.row, c.in-Some.field-0-1) c.past.result c.in-Some.ensures c.past.ensures.order

pub loop-row-preserved-in_default-holder_at : goal.loop-row-preserved-in_default-holder_at
loop-row-preserved-in_default-holder_at g c =
    grind (arith, next_left (g.P.Positions.rows c.args.positions.now) c.requires c.args.issue.now c.loop-row.passed (c.in-Some.row, c.in-Some.field-0-1) c.past.result c.past.ensures.account _ c.in-Some.ensures (sym c.if-is_new.ensures))

pub loop-row-smaller : goal.loop-row-smaller
loop-row-smaller g c =
    fewer_above (g.P.Positions.rows c.args.positions.now) c.requires c.loop-row.passed (c.in-Some.row, c.in-Some.field-0-1) c.past.result c.in-Some.ensures c.past.ensures.order
