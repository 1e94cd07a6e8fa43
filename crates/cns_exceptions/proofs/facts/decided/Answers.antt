use Rattle.cns_exceptions.proofs.facts.decided.Goals as goal

pub returns-in-IssueExists : goal.returns-in-IssueExists
returns-in-IssueExists c = let xs = c.args.exchanges.now in let r = c.args.refusal in (c.price.ensures xs r, (c.price-in-IssueExists.ensures xs r, (tt, (tt, tt))))

pub returns-in-Retired : goal.returns-in-Retired
returns-in-Retired c =
    let xs = c.args.exchanges.now in
    rw c.in-Retired.is (c.price-in-Retired.ensures xs _, (c.price-in-Retired-2.ensures xs _, (c.exchanged.ensures c.args.book.now.log, (c.exchanged-in-Retired.ensures c.args.book.now.log, tt))))

pub returns-in-NoSuchMember : goal.returns-in-NoSuchMember
returns-in-NoSuchMember c = let xs = c.args.exchanges.now in let r = c.args.refusal in (c.position.ensures xs r, (c.position-in-NoSuchMember.ensures xs r, (tt, (tt, tt))))

pub returns-in-TooLarge : goal.returns-in-TooLarge
returns-in-TooLarge c =
    let xs = c.args.exchanges.now in
    rw c.in-TooLarge.is (c.position-in-TooLarge.ensures xs _, (c.waiting.ensures xs, (c.position-in-TooLarge-2.ensures xs _, (c.waiting-in-TooLarge.ensures xs, tt))))

pub returns-in-PendingTrades : goal.returns-in-PendingTrades
returns-in-PendingTrades c = rw c.in-PendingTrades.is (c.pending.ensures c.args.exchanges.now, (tt, (tt, (tt, tt))))
