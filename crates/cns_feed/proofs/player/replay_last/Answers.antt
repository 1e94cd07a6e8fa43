use Rattle.cns_feed.proofs.Common.{err_from_is_err_and}
use Rattle.cns_feed.proofs.PlayLemmas.{stops-unread}
use Rattle.cns_feed.proofs.player.replay_last.Goals as goal

pub returns-in_err-book-clause-fault : goal.returns-in_err-book-clause-fault
returns-in_err-book-clause-fault g c =
    let p = err_from_is_err_and c.from_residual.result c.from_residual.ensures.1 in
    rw (p.1, p.2) (stops-unread _ _ (g.R.Read.remaining c.args.reader))
