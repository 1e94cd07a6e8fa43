use Rattle.cns_positions.proofs.Common.{rules, is_le, Holding, IsPartitionPoint-from_clause, Key, key_cmp, take_rest}
use Rattle.cns_positions.proofs.Held.{above_parted, parted_at}
use Rattle.cns_positions.proofs.flat.rows_above.Goals as goal

pub returns-in-Some : goal.returns-in-Some
returns-in-Some c =
    let rows = c.args.rows.now in
    let key = c.in-Some.key in
    let parted = IsPartitionPoint-from_clause (λ (r : Key × Holding). is_le (key_cmp r.0 key)) rows c.partition_point.result c.partition_point.ensures.partitioned (parted_at rows key c.requires) (λ x r q k. search rules) in
    rw (take_rest, c.in-Some.is) (above_parted rows key c.partition_point.result c.partition_point.ensures.bound parted)
