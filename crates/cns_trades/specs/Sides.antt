-- What members are to get and to give by trades that wait.
use Rattle.std.specs.Prelude.{◌≡◌, ◌+◌, ◌-◌, ◌≤◌, Bool, true, ◌&&◌, ◌==◌, List, is_some, unwrap_or, if◌then◌else◌}
use Rattle.cns_terms.specs.Common.{AllByRecursion, bought_in, is_eq, key_cmp, lookup, same_issue, shares_limit, sold_in}
use Rattle.cns_terms.specs.declared.holding.Key.{Key}
use Rattle.cns_terms.specs.declared.pend.Pend.{Pend}
use Rattle.cns_trades.specs.declared.sides.Sides.{Sides}

-- sums by key
abbrev pub SidesByKey : Type 0
SidesByKey = List (Key × Sides)

abbrev pub no_sides : Sides
no_sides = record { bought = 0; sold = 0 }

-- two together
abbrev pub more : Sides → Sides → Sides
more s t = record { bought = s.bought + t.bought; sold = s.sold + t.sold }

-- the first without the second
abbrev pub less : Sides → Sides → Sides
less s t = record { bought = s.bought - t.bought; sold = s.sold - t.sold }

-- whether there is room for the sums at a key
abbrev pub has_sides : SidesByKey → Key → Bool
has_sides es k = is_some (lookup (λ q. is_eq (key_cmp k q)) es)

-- the sums at a key
abbrev pub sides_at : SidesByKey → Key → Sides
sides_at es k = unwrap_or (lookup (λ q. is_eq (key_cmp k q)) es) no_sides

-- what trades that wait add up to at a key
abbrev pub sides_of : List Pend → Key → Sides
sides_of ps k = record { bought = bought_in ps k.account k.issue; sold = sold_in ps k.account k.issue }

-- where a trade brings shares, and where it takes them
abbrev pub bought_key : Pend → Key
bought_key p = record { account = p.buyer; issue = p.issue }

abbrev pub sold_key : Pend → Key
sold_key p = record { account = p.seller; issue = p.issue }

-- what one trade brings and takes at a key
abbrev pub sides_by : Pend → Key → Sides
sides_by p k = record {
  bought = if (p.buyer == k.account) && same_issue p.issue k.issue then p.shares else 0;
  sold = if (p.seller == k.account) && same_issue p.issue k.issue then p.shares else 0;
}

-- there is room for the sums of a trade's two parties
abbrev pub IsOpen : SidesByKey → Pend → Type 0
IsOpen es p = (has_sides es (bought_key p) ≡ true) × (has_sides es (sold_key p) ≡ true)

-- the sums at each key are those of the trades, which are of no more shares than a trade may be
pub record AreSummed (ps : List Pend) (es : SidesByKey) : Type 0 where
  pub sums : (k : Key) → sides_at es k ≡ sides_of ps k
  pub small : AllByRecursion (λ p. p.shares ≤ shares_limit) ps
