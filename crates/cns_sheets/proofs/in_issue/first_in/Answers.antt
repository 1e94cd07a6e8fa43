use Rattle.cns_sheets.proofs.Common.{arith, ◌≤◌, sym, bytes_eq-Decides, is_at_or_after, member_limit}
use Rattle.cns_sheets.proofs.InIssue.{fewer_left, first_entry}
use Rattle.cns_sheets.proofs.Entries.{first_passes}
use Rattle.cns_terms.proofs.Everywhere.{each_found}
use Rattle.cns_sheets.proofs.in_issue.first_in.Goals as goal

pub returns-in_err-key : goal.returns-in_err-key
returns-in_err-key g c = grind (arith, first_entry c.args.issue.now c.args.rows.now c.requires.accounts c.in_err-key.ensures.rises c.in-Some.low _ c.in_err-key.ensures.row, c.from_residual.ensures)

pub returns-then-is_same : goal.returns-then-is_same
returns-then-is_same g c = grind (arith, bytes_eq-Decides, first_entry c.args.issue.now c.args.rows.now c.requires.accounts c.in_ok-key.ensures.rises c.in-Some.low _ c.in_ok-key.ensures.row)

pub loop-place-smaller : goal.loop-place-smaller
loop-place-smaller g c = grind (arith, fewer_left c.args.issue.now c.in_ok-key.key c.in-Some.low, first_passes (is_at_or_after c.in-Some.low) c.args.rows.now _ (sym c.in_ok-key.ensures.row))

pub loop-place-preserved : goal.loop-place-preserved
loop-place-preserved g c = grind (arith, bytes_eq-Decides, first_entry c.args.issue.now c.args.rows.now c.requires.accounts c.in_ok-key.ensures.rises c.in-Some.low _ c.in_ok-key.ensures.row, each_found (λ e. e.0.account ≤ member_limit) (is_at_or_after c.in-Some.low) (c.in-Some.low, c.in_ok-key.columns) c.args.rows.now)
