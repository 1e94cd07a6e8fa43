use Rattle.cns_sheets.proofs.Common.{◌∙◌, sym, ap, arith, DaySheet, rows_for}
use Rattle.cns_sheets.proofs.Walked.{account_walk}
use Rattle.cns_sheets.proofs.sheet.Sheet.rows_of.Goals as goal

pub new-requires : goal.new-requires
new-requires g c =
    let walked = account_walk c.args.account c.self.inside.rows c.self.invariant.sheet.rows_rise c.self.invariant.sheet.rows_marked _ (rw (← c.lowest_of.ensures) c.first_at_or_after.ensures.row) c.of_account-first.ensures (rw (← c.passed.ensures) c.walk_above-rest.ensures.rows) in
    (omega arith, (omega arith, walked.0))

pub returns : goal.returns
returns g c =
    let walked = account_walk c.args.account c.self.inside.rows c.self.invariant.sheet.rows_rise c.self.invariant.sheet.rows_marked _ (rw (← c.lowest_of.ensures) c.first_at_or_after.ensures.row) c.of_account-first.ensures (rw (← c.passed.ensures) c.walk_above-rest.ensures.rows) in
    c.new.ensures ∙ sym walked.1 ∙ ap (λ (s : DaySheet). rows_for s.rows c.args.account) c.self.view_is
