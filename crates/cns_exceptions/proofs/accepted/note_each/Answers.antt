use Rattle.cns_exceptions.proofs.Common.{◌∙◌, ap, get_or, set, arith, with_trade}
use Rattle.std.proofs.lemmas.List.Edits.{map_over_more}
use Rattle.cns_exceptions.proofs.accepted.note_each.Goals as goal

pub loop-finding-preserved : goal.loop-finding-preserved
loop-finding-preserved c =
    let rows = c.loop-finding.findings in
    let i = c.loop-finding.finding-index in
    let noted = with_trade c.args.invalid.now c.args.place c.args.trade.now in
    ap (set rows i) c.note_trade.ensures
    ∙ map_over_more noted c.args.findings.now rows i (get_or rows i c.finding-item.result) (omega arith) c.loop-finding.invariant (ap (get_or rows i) c.finding-item.is)
