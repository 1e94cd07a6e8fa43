use Rattle.cns_history.proofs.Common.{◌∙◌, arith, state_of, has_position, sym}
use Rattle.cns_history.proofs.Owned.{account_is, number_out}
use Rattle.cns_history.proofs.everywhere.accounts_in.Goals as goal

pub loop-number-preserved-then-not-has_position : goal.loop-number-preserved-then-not-has_position
loop-number-preserved-then-not-has_position c =
    number_out (has_position (state_of c.args.book.now.log) c.args.issue) c.loop-number.number c.in-Ok.account _ c.loop-number.invariant
    (account_is c.loop-number.number c.in-Ok.account (omega (arith, c.loop-number-test.true)) (sym c.in-Ok.is ∙ c.new.ensures)) (sym c.has_position.ensures ∙ c.if-not-has_position.true)
