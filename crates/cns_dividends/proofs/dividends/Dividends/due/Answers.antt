use Rattle.cns_dividends.proofs.Common.{◌≡◌, sym, arith}
use Rattle.cns_dividends.proofs.Chosen.{due_between, forward, start_of}
use Rattle.cns_dividends.proofs.dividends.Dividends.due.Goals as goal

pub range-requires : goal.range-requires
range-requires g c = grind (arith, forward c.args.last c.args.this c.len-number.result)

pub returns-clause-due : goal.returns-clause-due
returns-clause-due g c =
    let start : c.match-last.start ≡ start_of c.args.last c.args.this c.len-number.result = grind arith in
    rw (sym c.self.view_is, c.range.ensures.between tt, start) (due_between c.args.last c.args.this c.len-number.result c.self.inside.placed.entries (rw c.len-number.ensures.len c.self.invariant))
