use Rattle.cns_sheets.proofs.Common.{arith}
use Rattle.cns_sheets.proofs.Weaving.{taken}
use Rattle.cns_sheets.proofs.in_order.InOrder.take.Goals as goal

pub returns-then-not-is_same : goal.returns-then-not-is_same
returns-then-not-is_same c = grind (arith, taken c.args.key (c.in-Some.next, c.in-Some.cents) c.self.inside.rest, c.is_same.ensures)

pub returns : goal.returns
returns c = grind (arith, taken c.args.key (c.in-Some.next, c.in-Some.cents) c.self.inside.rest, c.is_same.ensures, c.first_of-self-inside.ensures)
