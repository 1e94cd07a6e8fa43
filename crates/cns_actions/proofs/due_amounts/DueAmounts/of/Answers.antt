use Rattle.cns_actions.proofs.Common.{◌+◌, ◌∙◌, sym, drop}
use Rattle.cns_actions.proofs.DueAmounts.{trade_booked, trade_passed}
use Rattle.cns_terms.proofs.Facts.{left_first}
use Rattle.cns_actions.proofs.due_amounts.DueAmounts.of.Goals.{then-is_due+in_ok-add_trade, else-is_due}
use Rattle.cns_actions.proofs.due_amounts.DueAmounts.of.Goals as goal

pub loop-pend-preserved : goal.loop-pend-preserved
loop-pend-preserved g c =
    let l = c.loop-pend in
    let p = c.pend-item.result in
    let rest = drop (l.pend-index + 1) c.args.pending.now in
    let now = rw (left_first c.args.pending.now l.pend-index p c.loop-pend-test.true c.pend-item.is) at l.invariant in
    elim c.if-is_due.branch [
      | then-is_due+in_ok-add_trade w ↦ let e = w.in_ok-add_trade.ensures in rw w.amounts-is (trade_booked _ c.args.next l.pend-index l.amounts w.add_trade.new.self p rest (sym c.is_due.ensures ∙ w.if-is_due.true) e.sums e.bound e.others now)
      | else-is_due w ↦ rw w.amounts-is (trade_passed _ c.args.next l.pend-index l.amounts p rest (sym c.is_due.ensures ∙ w.if-is_due.false) now)
    ]
