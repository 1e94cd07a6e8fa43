use Rattle.cns_sheets.proofs.Common.{◌≡◌, ◌*◌, ◌+ℤ◌, ◌^◌, ◌≤◌, drop, pos, unsigned_abs, AllByRecursion, IsPayable, Key, cents_at, dividend_of, paying, total}
use Rattle.cns_sheets.proofs.payments.Paid.new.Given as goal

abbrev pub invariant-loop-payment : goal.invariant-loop-payment
invariant-loop-payment g l = record {
  cents : (k : Key) → cents_at l.booked k +ℤ dividend_of (paying (drop l.payment-index l.fn.payments)) k ≡ dividend_of (paying l.fn.payments) k;
  payable : AllByRecursion IsPayable (paying (drop l.payment-index l.fn.payments));
  small : (k : Key) → unsigned_abs (cents_at l.booked k) ≤ 2 * 10 ^ 21 * l.payment-index;
  zero : total (λ e. e.1) l.booked ≡ pos 0;
}
