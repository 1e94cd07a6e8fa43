use Rattle.cns_sheets.proofs.Common.{◌≡◌, ◌+ℤ◌, ◌++◌, if◌then◌else◌, pos, is_eq, Key, cents_at, key_cmp, row_key, member_cash, total}
use Rattle.cns_sheets.proofs.payments.Paid.pay_members.Given as goal

abbrev pub invariant-loop-row : goal.invariant-loop-row
invariant-loop-row g l = record {
  left : l.initial.row-iterator ≡ l.yielded ++ l.row-iterator;
  cents : (k : Key) → cents_at l.self k ≡ cents_at l.fn.self k +ℤ total (λ r. if is_eq (key_cmp k (row_key r)) then member_cash l.fn.declared r else pos 0) l.yielded;
  sum : l.sum ≡ total (member_cash l.fn.declared) l.yielded;
  all : total (λ e. e.1) l.self ≡ total (λ e. e.1) l.fn.self +ℤ total (member_cash l.fn.declared) l.yielded;
}
