use Rattle.cns_notices.proofs.Common.{ltb, leb, rules, arith, nat_tests, [], IsPartitionPoint-from_clause, Noticed, IsPartitionedBy-leb, IsPartitionedBy-ltb, new_notice}
use Rattle.cns_notices.proofs.changes.span.Goals as goal

pub returns : goal.returns
returns c =
    let start = IsPartitionPoint-from_clause (λ (x : Noticed). ltb x.given.day c.args.day) _ _ c.partition_point-start.ensures.partitioned (IsPartitionedBy-ltb (λ (x : Noticed). x.given.day) _ _ c.requires) (λ x r q k. search rules) in
    let end = IsPartitionPoint-from_clause (λ (x : Noticed). leb x.given.day c.args.day) _ _ c.partition_point-end.ensures.partitioned (IsPartitionedBy-leb (λ (x : Noticed). x.given.day) _ _ c.requires) (λ x r q k. search rules) in
    let d = new_notice (record { member = 0; issue = []; shares = 0; day = 0 }) in
    record { order = (grind (arith, nat_tests, start.0 c.partition_point-end.result d, end.1 c.partition_point-end.result d), c.partition_point-end.ensures.bound); start = start; end = end }
