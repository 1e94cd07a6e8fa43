use Rattle.cns_day.proofs.Common.{arith, get, slice_cmp, nat_cmp, put_found}
use Rattle.std.proofs.lemmas.Map.Lookups.{exact_bytes}
use Rattle.cns_day.specs.Issues.{nothing, with_row}
use Rattle.cns_day.specs.declared.issues.IssueSums.{IssueSums}
use Rattle.cns_day.proofs.issues.add.Goals as goal

pub returns : goal.returns
returns c =
    let f : IssueSums → IssueSums = λ s. with_row s c.args.row.now in
    put_found (slice_cmp nat_cmp) exact_bytes (nothing c.args.row.now.issue) f (get (slice_cmp nat_cmp) c.args.by_issue.now.sums) (get (slice_cmp nat_cmp) c.insert.new.self) _ c.with.result c.in_ok-insert.ensures.updates.0
    (grind (arith, c.with.ensures, c.unwrap_or-had.ensures, c.copied.ensures, c.get.ensures.value, c.nothing-none.ensures))
