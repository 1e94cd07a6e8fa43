-- How a mark comes about.
-- For `moves_add_up` of laws.rt.
use Rattle.cns_account.proofs.Common.{◌≡◌, ◌∙◌, sym, ap, ◌*◌, ◌^◌, ◌≤◌, ℤ, pos, ◌+ℤ◌, ◌-ℤ◌, ◌*ℤ◌, arith, unsigned_abs, int_wrap_fits, ints, Price, Row, of_causes, Moved, Moves, moved, valued}
use Rattle.std.proofs.Math.IntN.{*ℤ-negsuc, *ℤ_comm}
use Rattle.std.proofs.Math.Nat.{mul-le-mul}
use Rattle.std.specs.Prelude.{negsuc, suc}
use Rattle.cns_terms.proofs.ZeroSums.{times_sum}
use Rattle.cns_terms.specs.Common.{amount_limit, price_limit}

times_all : (a b z : ℤ) → (a +ℤ b) *ℤ z ≡ (a *ℤ z) +ℤ (b *ℤ z)
times_all a b (pos n) = times_sum a b n
times_all a b (negsuc n) = omega (arith, ints, *ℤ-negsuc a n, *ℤ-negsuc b n, *ℤ-negsuc (a +ℤ b) n, times_sum a b (suc n))

-- ---- what the causes bring

-- shares and cents whose value fits
abbrev pub IsSmall : Moved → Type 0
IsSmall x = (unsigned_abs x.shares ≤ 2 ^ 63) × (unsigned_abs x.cents ≤ 2 * amount_limit)

valued_is : (p : Price) (x : Moved) → p ≤ price_limit → IsSmall x → valued p x ≡ (x.shares *ℤ pos p) +ℤ x.cents
unfolding valued
valued_is p x h1 h2 = grind (arith, mul-le-mul, int_wrap_fits)

abbrev pub AreSmall : Moves → Type 0
AreSmall m = IsSmall m.trades × IsSmall m.delivered × IsSmall m.received × IsSmall m.actions × IsSmall m.buy_ins

-- all five bring their shares at the price, and their cents
all_valued : (p : Price) (m : Moves) → p ≤ price_limit → AreSmall m → of_causes (valued p) m ≡ (of_causes (λ x. x.shares) m *ℤ pos p) +ℤ of_causes (λ x. x.cents) m
all_valued p m few small =
    rw (valued_is p m.trades few small.0, valued_is p m.delivered few small.1, valued_is p m.received few small.2, valued_is p m.actions few small.3, valued_is p m.buy_ins few small.4)
    (omega (arith, ints, times_sum m.trades.shares (m.delivered.shares +ℤ (m.received.shares +ℤ (m.actions.shares +ℤ m.buy_ins.shares))) p, times_sum m.delivered.shares (m.received.shares +ℤ (m.actions.shares +ℤ m.buy_ins.shares)) p, times_sum m.received.shares (m.actions.shares +ℤ m.buy_ins.shares) p, times_sum m.actions.shares m.buy_ins.shares p))

-- the value of a position at a close less that at the close before, and what was booked
value_change : (opening closing shares cents : ℤ) (price before : Price) → opening +ℤ shares ≡ closing
    → cents +ℤ ((opening *ℤ (pos price -ℤ pos before)) +ℤ (shares *ℤ pos price)) ≡ ((closing *ℤ pos price) -ℤ (opening *ℤ pos before)) +ℤ cents
value_change opening closing shares cents price before is =
    let d = pos price -ℤ pos before in
    let all : d +ℤ pos before ≡ pos price = omega (arith, ints) in
    omega (arith, ints, sym (ap (λ z. z *ℤ opening) all) ∙ times_all d (pos before) opening, times_sum opening shares price, ap (λ z. z *ℤ pos price) is, *ℤ_comm opening d, *ℤ_comm opening (pos before), *ℤ_comm opening (pos price))

-- the price change and what the causes bring come to the mark
pub marked : (r : Row) (m : Moves) → r.price ≤ price_limit → AreSmall m → r.mark ≡ ((r.closing *ℤ pos r.price) -ℤ (r.opening *ℤ pos r.opening_price)) +ℤ r.money
    → r.opening +ℤ of_causes (λ x. x.shares) m ≡ r.closing → of_causes (λ x. x.cents) m ≡ r.money → moved r +ℤ of_causes (valued r.price) m ≡ r.mark
unfolding moved
marked r m few small is shares cents = omega (arith, ints, is, cents, all_valued r.price m few small, value_change r.opening r.closing (of_causes (λ x. x.shares) m) r.money r.price r.opening_price shares)
