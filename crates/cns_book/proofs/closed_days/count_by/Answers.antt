use Rattle.cns_book.proofs.Common.{IsPartitionPoint-from_clause, arc_value, is_dated_by, rules}
use Rattle.cns_book.proofs.ClosingSteps.{le_test}
use Rattle.cns_book.proofs.ClosedDaysSearch.{dated_parted}
use Rattle.cns_book.proofs.closed_days.count_by.Goals as goal

pub returns-clause-parted : goal.returns-clause-parted
returns-clause-parted g c =
    IsPartitionPoint-from_clause (λ a. is_dated_by c.args.date (arc_value a)) c.args.sheets.now c.partition_point.result c.partition_point.ensures.partitioned (dated_parted arc_value c.args.date c.args.sheets.now c.requires) (λ x r q k. search (rules, le_test))
