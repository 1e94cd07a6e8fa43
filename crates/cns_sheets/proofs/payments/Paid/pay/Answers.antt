use Rattle.cns_sheets.proofs.Common.{sym, to_z-of_z, w128, arith, Key, cents_at, ints, member_cash, on_ok_weaker, total}
use Rattle.cns_sheets.proofs.Booked.{fits, all_booked_small, all_small, both_small, neg_is, paid_is}
use Rattle.cns_sheets.proofs.payments.Paid.pay.Goals as goal

pub overflow_sub-sum : goal.overflow_sub-sum
overflow_sub-sum g c =
    let small = rw (sym c.in_ok-sum.ensures.sum) at (all_small c.args.declared.now c.args.rows c.requires.payable) in
    omega (arith, ints, small, to_z-of_z w128 c.in_ok-sum.sum (fits c.in_ok-sum.sum (omega (arith, small))))

pub add-requires : goal.add-requires
add-requires g c =
    let k : Key = record { account = 0; issue = c.args.declared.now.issue } in
    omega (arith, ints, c.in_ok-sum.ensures.sum, c.in_ok-sum.ensures.cents k, c.requires.small k, all_small c.args.declared.now c.args.rows c.requires.payable, all_booked_small c.args.declared.now c.args.rows c.requires.payable k)

pub returns : goal.returns
returns g c =
    let d = c.args.declared.now in
    let rows = c.args.rows in
    let most = all_small d rows c.requires.payable in
    let neg = rw (sym c.in_ok-sum.ensures.sum) at (neg_is (total (member_cash d) rows) most) in
    record {
      cents = λ order. on_ok_weaker c.add.result (λ more k. let is = rw neg at (more k) in omega (arith, ints, is, c.in_ok-sum.ensures.cents k, paid_is d rows k c.in_ok-sum.sum order c.in_ok-sum.ensures.sum)) c.add.ensures.cents;
      sum = on_ok_weaker c.add.result (λ more. let is = rw neg at more in omega (arith, ints, is, c.in_ok-sum.ensures.all, c.in_ok-sum.ensures.sum)) c.add.ensures.sum;
      bound = on_ok_weaker c.add.result (λ more k. both_small _ (cents_at c.args.self.now k) _ (cents_at c.pay_members.new.self k) (cents_at c.add.new.self k) c.in_ok-sum.sum (c.in_ok-sum.ensures.cents k) (rw neg at (more k)) (all_booked_small d rows c.requires.payable k) (rw c.in_ok-sum.ensures.sum most)) c.add.ensures.cents;
    }
