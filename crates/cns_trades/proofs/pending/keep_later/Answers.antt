use Rattle.cns_trades.proofs.Common.{rules, not, is_due}
use Rattle.std.proofs.lemmas.Fn.{filter_same}
use Rattle.cns_trades.proofs.pending.keep_later.Goals as goal

-- the closure keeps what is not due, and stays as it was
pub returns : goal.returns
returns g c = filter_same _ (λ p. not (is_due c.args.next p)) _ (λ x b f h. (search rules, search rules)) _ _ c.retain.ensures.filtered
