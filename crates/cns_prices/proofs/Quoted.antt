-- One quote more, or another.
-- For `list`, `requote`, `retire` and `set` of prices.rt.
use Rattle.cns_prices.proofs.Common.{◌≡◌, true, cond, Option, Some, None, bytes_eq, option_map, ◌||◌, Result, OnOk, OnErr, IsSome, Cusip, bytes_eq-Decides, is_eq-slice_cmp, option_map_or, Quote, Listed, Quotes, quote_in, price_in, retired_in, arith}

-- the prices after one quote
pub priced : (old new : Listed) (k : Cusip) (q : Quote) → Quotes old new k q → (c : Cusip) → price_in new c ≡ cond (bytes_eq k c) (Some q.price) (price_in old c)
priced old new k q h c = grind (arith, option_map, h c, is_eq-slice_cmp k c)

-- the retired issues after one quote
pub marked : (old new : Listed) (k : Cusip) (q : Quote) → Quotes old new k q → (c : Cusip) → retired_in new c ≡ cond (bytes_eq k c) q.retired (retired_in old c)
marked old new k q h c = grind (arith, option_map_or, h c, is_eq-slice_cmp k c)

-- a quote that leaves the issue retired or not as it was
pub unmarked : (old new : Listed) (k : Cusip) (q : Quote) → Quotes old new k q → q.retired ≡ retired_in old k → (c : Cusip) → retired_in new c ≡ retired_in old c
unmarked old new k q h same c = grind (arith, marked old new k q h c, same, (bytes_eq-Decides k c).0)

-- a quote that is there is not missing
pub not_missing : (o : Option Quote) → IsSome o → o ≡ None → ⊥
not_missing o h1 h2 = grind arith

-- a quote with the price that the issue has
pub repriced : (old new : Listed) (k : Cusip) (q q' : Quote) → Quotes old new k q → quote_in old k ≡ Some q' → q.price ≡ q'.price → (c : Cusip) → price_in new c ≡ price_in old c
repriced old new k q q' h is same c = grind (arith, option_map, priced old new k q h c, same, is, (bytes_eq-Decides k c).0)

-- a quote that retires the issue
pub retires : (old new : Listed) (k : Cusip) (q : Quote) → Quotes old new k q → q.retired ≡ true → (c : Cusip) → retired_in new c ≡ (bytes_eq k c || retired_in old c)
retires old new k q h is c = grind (arith, marked old new k q h c, is)

-- what a call says of its success, where it can't have failed
pub succeeded : {X E P Q : Type 0} (r : Result X E) → OnOk r P → OnErr r Q → (Q → ⊥) → P
succeeded r h1 h2 h3 = grind arith
