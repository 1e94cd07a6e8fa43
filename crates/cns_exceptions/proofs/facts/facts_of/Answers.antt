use Rattle.std.proofs.Common.{arith}
use Rattle.cns_exceptions.proofs.Shown.{shown_at}
use Rattle.cns_exceptions.proofs.facts.facts_of.Goals as goal

pub returns-clause-shown : goal.returns-clause-shown
returns-clause-shown c =
    let xs = c.args.exchanges.now in
    let log = c.args.book.now.log in
    let r = c.args.refusal in
    let fs = c.decided-others.result in
    let all = c.decided-others.ensures in (
      (c.today.ensures, c.day.ensures),
      (
        c.notice.ensures xs r,
        (shown_at xs log r fs 0 _ all (omega arith), (shown_at xs log r fs 1 _ all (omega arith), (shown_at xs log r fs 2 _ all (omega arith), (shown_at xs log r fs 3 _ all (omega arith), tt)))),
      ),
    )
