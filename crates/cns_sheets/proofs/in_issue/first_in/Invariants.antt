use Rattle.cns_sheets.proofs.Common.{◌≡◌, IsPlaceIn, entries_from}
use Rattle.cns_sheets.proofs.InIssue.{accounts_left}
use Rattle.cns_sheets.proofs.in_issue.first_in.Given as goal

abbrev pub invariant-loop-place : goal.invariant-loop-place
invariant-loop-place g l = record {
  same : entries_from l.rows l.issue l.place ≡ entries_from l.rows l.issue l.fn.from;
  place : IsPlaceIn l.issue l.place;
}

abbrev pub decreases-loop-place : goal.decreases-loop-place
decreases-loop-place g l = accounts_left l.issue l.place
