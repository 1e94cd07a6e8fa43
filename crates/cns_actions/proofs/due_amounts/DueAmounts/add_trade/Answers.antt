use Rattle.cns_actions.proofs.Common.{on_ok_weaker, amount_at, entry_key, arith}
use Rattle.cns_actions.proofs.DueAmounts.{trade_bound, trade_room}
use Rattle.cns_actions.proofs.due_amounts.DueAmounts.add_trade.Goals as goal

pub add-requires-2-clause-room : goal.add-requires-2-clause-room
add-requires-2-clause-room g c =
    let k = entry_key c.seller_entry.result in
    grind (arith, trade_room c.args.pend.now k, c.in_ok-add.ensures.amounts k, c.requires k)

pub returns-clause-bound : goal.returns-clause-bound
returns-clause-bound g c =
    let b = c.buyer_entry.ensures in
    on_ok_weaker c.add-2.result (λ h k. rw (h k, c.in_ok-add.ensures.amounts k, b.entry, c.seller_entry.ensures.entry) (trade_bound c.args.pend.now k (amount_at c.args.self.now k) (rw b.entry at b.shares) (rw b.entry at b.cents))) c.add-2.ensures.amounts
