use Rattle.cns_sheets.proofs.Common.{◌∙◌, append-nil, arith, ints, member_cash, to_z-of_z, w128}
use Rattle.cns_sheets.proofs.Booked.{booked, step_small}
use Rattle.cns_sheets.proofs.RowSums.{onward, total_push}
use Rattle.cns_sheets.proofs.payments.Paid.pay_members.Goals as goal

pub add-requires : goal.add-requires
add-requires g c = grind (arith, ints, step_small c.args.declared.now c.key.result c.loop-row.yielded c.next.new.self c.in-Some.row, c.requires.small c.key.result, c.loop-row.invariant.cents c.key.result)

pub overflow_add-sum : goal.overflow_add-sum
overflow_add-sum g c =
    let kept = c.loop-row.invariant in
    let few = step_small c.args.declared.now c.key.result c.loop-row.yielded c.next.new.self c.in-Some.row (rw (← c.in-Some.ensures.steps, ← kept.left, c.into_iter-row-iterator.ensures.into_iter_gives) c.requires.payable) in
    let passed = to_z-of_z w128 c.member_cash-cents.result (record { sfits = c.member_cash-cents.type_inv }) ∙ c.member_cash-cents.ensures in
    omega (arith, ints, few, passed, kept.sum)

pub loop-row-preserved : goal.loop-row-preserved
loop-row-preserved g c =
    let kept = c.loop-row.invariant in
    let few = step_small c.args.declared.now c.key.result c.loop-row.yielded c.next.new.self c.in-Some.row (rw (← c.in-Some.ensures.steps, ← kept.left, c.into_iter-row-iterator.ensures.into_iter_gives) c.requires.payable) in
    let passed = to_z-of_z w128 c.member_cash-cents.result (record { sfits = c.member_cash-cents.type_inv }) ∙ c.member_cash-cents.ensures in
    record {
      left = onward _ _ _ _ _ kept.left c.in-Some.ensures.steps;
      cents = λ k. let more = rw (passed, c.key.ensures) at (c.in_ok-add.ensures.cents k) in omega (arith, ints, total_push (booked c.args.declared.now k) c.loop-row.yielded c.in-Some.row, kept.cents k, more);
      sum = omega (arith, ints, few, passed, total_push (member_cash c.args.declared.now) c.loop-row.yielded c.in-Some.row, kept.sum);
      all = omega (arith, ints, passed, total_push (member_cash c.args.declared.now) c.loop-row.yielded c.in-Some.row, kept.all, c.in_ok-add.ensures.sum);
    }

pub returns-clause-cents : goal.returns-clause-cents
returns-clause-cents g c = grind (arith, append-nil)
