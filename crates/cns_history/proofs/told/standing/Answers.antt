use Rattle.cns_history.proofs.Common.{state_of, arith}
use Rattle.cns_history.proofs.Limits.{standing_small}
use Rattle.cns_history.proofs.told.standing.Goals as goal

pub returns : goal.returns
returns c =
    grind (arith, standing_small (state_of c.args.book.now.log) c.args.key.now c.history_len-entries.ensures.reached c.history_len-entries.ensures.few)
