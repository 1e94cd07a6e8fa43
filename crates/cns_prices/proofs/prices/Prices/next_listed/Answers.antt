use Rattle.cns_prices.proofs.Common.{◌≡◌, ◌∙◌, ap, sym, nat_list_cmp_total, sorted_from}
use Rattle.cns_prices.proofs.Next.{next_listed, start_of}
use Rattle.cns_prices.proofs.prices.Prices.next_listed.Goals.{in-Some, in-None}
use Rattle.cns_prices.proofs.prices.Prices.next_listed.Goals as goal

pub returns-clause-next : goal.returns-clause-next
returns-clause-next g c =
    let start : c.match-after.start ≡ start_of c.args.after = elim c.match-after.branch [ in-Some w ↦ w.start-is ∙ ap start_of (sym w.in-Some.is) | in-None w ↦ w.start-is ∙ ap start_of (sym w.in-None.is) ] in
    rw (← c.self.view_is) (next_listed c.self.inside.issues.entries c.range.result c.next.new.self c.args.after c.in_ok-cusip.cusip.now c.in_ok-cusip.quote.now (sorted_from nat_list_cmp_total _ c.range.ensures.ordered) (rw start at (c.range.ensures.between tt)) c.in_ok-cusip.ensures.steps)
