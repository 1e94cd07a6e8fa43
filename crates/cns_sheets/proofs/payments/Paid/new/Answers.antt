use Rattle.cns_sheets.proofs.Common.{◌≡◌, ◌∙◌, refl, not, List, [], ◌∷◌, filter, unsigned_abs, arith, IsPayable, Key, Row, by_key, ints, row_key, member_cash, paid, same_issue, total, sum_by-filter_both, Declared}
use Rattle.cns_sheets.proofs.Entries.{filter-map, find_if}
use Rattle.cns_terms.proofs.Facts.{left_first}
use Rattle.cns_sheets.proofs.payments.Paid.new.Goals as goal

module _ (d : Declared) where
  -- the rows in the issue
  abbrev rows_in : List Row → List Row
  rows_in rows = filter (λ r. same_issue r.issue d.issue) rows

  -- members get as much on them as on all
  same_total : (rows : List Row) → total (member_cash d) (rows_in rows) ≡ total (member_cash d) rows
  same_total [] = refl
  same_total (r ∷ rs) = grind (arith, same_total rs)

  -- they can be paid where all can
  payable_in : (rows : List Row) → IsPayable (d, rows) → IsPayable (d, rows_in rows)
  payable_in rows h = omega (arith, sum_by-filter_both (λ r. same_issue r.issue d.issue) (λ r. not (same_issue r.issue d.issue)) (λ r. refl) (λ r. unsigned_abs (member_cash d r)) rows, h)

  -- what a dividend pays on the rows in its issue is what it pays on all
  paid_in : (rows : List Row) (k : Key) → paid d (rows_in rows) k ≡ paid d rows k
  paid_in rows k = grind (arith, same_total rows, filter-map (λ (e : Key × Row). same_issue e.0.issue d.issue) (λ r. (row_key r, r)) rows, find_if (λ q. same_issue q.issue d.issue) k (by_key rows))

pub pay-requires-clause-payable : goal.pay-requires-clause-payable
pay-requires-clause-payable g c = grind (arith, payable_in c.payment-item.result.declared c.payment-item.result.sheet.now.rows, left_first c.args.payments.now c.loop-payment.payment-index c.payment-item.result)

pub loop-payment-preserved : goal.loop-payment-preserved
loop-payment-preserved g c =
    let next = left_first c.args.payments.now c.loop-payment.payment-index c.payment-item.result c.loop-payment-test.true c.payment-item.is in
    record {
      cents = λ k. omega (arith, ints, rw next at (c.loop-payment.invariant.cents k), rw c.rows_in-rows.ensures.rows at (c.in_ok-pay.ensures.cents c.rows_in-rows.ensures.order k), paid_in c.payment-item.result.declared c.payment-item.result.sheet.now.rows k);
      payable = grind (arith, next);
      small = λ k. omega (arith, c.loop-payment.invariant.small k, c.in_ok-pay.ensures.bound k);
      zero = c.in_ok-pay.ensures.sum ∙ c.loop-payment.invariant.zero;
    }
