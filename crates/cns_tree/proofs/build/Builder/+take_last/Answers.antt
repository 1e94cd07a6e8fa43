use Rattle.cns_tree.proofs.Common.{◌-◌, ◌/◌, ◌≤◌, ◌<◌, length, append_assoc, length-append, rules, arith, key_cmp}
use Rattle.cns_tree.proofs.Heights.{IsFull, halves_level, few_levels}
use Rattle.cns_tree.proofs.Rows.{sorted_left, sorted_taken}
use Rattle.cns_tree.proofs.build.Builder.+take_last.Goals as goal

pub take_last-left-requires : goal.take_last-left-requires
take_last-left-requires g t c κs within =
    let fewer : c.args.count - 1 - (c.args.count - 1) / 2 < c.args.count = omega (arith, c.if-count-eq0.false) in
    let enough : c.args.count - 1 - (c.args.count - 1) / 2 ≤ length c.pop.new.self = grind (arith, length-append, c.take_last-right.ensures, c.in-Some.ensures) in
    let rises = sorted_left key_cmp _ _ _ _ _ c.take_last-right.ensures.rows c.in-Some.ensures c.requires.rises in
    search rules

pub join-requires-clause-rises : goal.join-requires-clause-rises
join-requires-clause-rises g t c = sorted_taken key_cmp c.args.self.now c.take_last-right.new.self _ c.pop.new.self c.take_last-left.new.self c.take_last-left.result.side.0 _ c.take_last-right.ensures.rows c.in-Some.ensures c.take_last-left.ensures.rows c.requires.rises

pub join-requires-clause-leans : goal.join-requires-clause-leans
join-requires-clause-leans g t c =
    let left : IsFull (c.args.count - 1 - (c.args.count - 1) / 2) c.take_last-left.result.height = grind (arith, c.take_last-left.ensures) in
    let right : IsFull ((c.args.count - 1) / 2) c.take_last-right.result.height = grind (arith, c.take_last-right.ensures) in
    let level = halves_level _ _ _ _ left right (omega arith) (omega arith) in
    grind (arith, level)

pub overflow_add-result : goal.overflow_add-result
overflow_add-result g t c =
    let left : IsFull (c.args.count - 1 - (c.args.count - 1) / 2) c.take_last-left.result.height = grind (arith, c.take_last-left.ensures) in
    grind (arith, few_levels _ _ left)

pub returns-clause-height : goal.returns-clause-height
returns-clause-height g t c =
    let left : IsFull (c.args.count - 1 - (c.args.count - 1) / 2) c.take_last-left.result.height = grind (arith, c.take_last-left.ensures) in
    let right : IsFull ((c.args.count - 1) / 2) c.take_last-right.result.height = grind (arith, c.take_last-right.ensures) in
    let level = halves_level _ _ _ _ left right (omega arith) (omega arith) in
    grind (arith, level, c.join.ensures)

pub returns-clause-rows : goal.returns-clause-rows
returns-clause-rows g t c = grind (arith, append_assoc)

pub returns-clause-count : goal.returns-clause-count
returns-clause-count g t c = grind (arith, length-append)
