use Rattle.cns_trades.proofs.Common.{ap, is_due, is_used, sym, ◌∙◌}
use Rattle.cns_trades.proofs.Checking.{books_now, passed}
use Rattle.cns_trades.proofs.trades.Trades.check_trade.Goals as goal

pub returns-then-is_due-clause-answer : goal.returns-then-is_due-clause-answer
returns-then-is_due-clause-answer g c =
    let p = c.in-Some.buyer in
    let q = c.in-Some-seller.seller in
    cc (
      c.book_now.ensures.answer,
      c.party-buyer.ensures,
      c.party-seller.ensures,
      c.of-pend.ensures,
      passed p (c.requires.buyer p c.in-Some.is),
      passed q (c.requires.seller q c.in-Some-seller.is),
      books_now c.args.facts.now c.args.self.now.pending (is_used c.args.self.now.references c.args.trade.now.reference) c.args.trade.now p q c.in-Some.is c.in-Some-seller.is c.in_ok-check_issue.ensures.ok.0 c.in_ok-check_issue.ensures.ok.1 (sym c.if-eq.ensures) (sym c.is_in_time.ensures ∙ c.if-not-is_in_time.false) (sym c.if-seen.ensures) (ap (is_due c.args.facts.now.today) (sym c.of-pend.ensures) ∙ sym c.if-is_due.ensures),
    )
