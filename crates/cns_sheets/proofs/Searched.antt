-- What a search in sorted rows or prices finds.
-- For `past` and `next_price` of search.rt.
use Rattle.cns_sheets.proofs.Common.{◌≡◌, ◌∙◌, sym, refl, ℕ, ◌+◌, ◌<◌, ◌≤◌, true, [], ◌∷◌, length, get_or, drop, Option, Some, None, arith, MatchOption, option_copied, HoldsAt, nat_cmp, Less, Equal, Greater, Cusip, IsPartitionPoint, Price, PriceList, below_later, drop_all, is_sorted, nat_list_cmp_total, next_above, prices_above, slice_cmp}
use denote.Bor.{Bor}
use Rattle.cns_terms.proofs.Facts.{left_first}
use Rattle.cns_positions.proofs.Parted.{filter_back, filter_whole}
use Rattle.cns_prices.specs.Listed.{is_after}

-- all prices
pub all_prices : (prices : PriceList) → prices ≡ prices_above prices None
all_prices prices = sym (filter_whole (λ e. is_after None e.0) prices (λ k d p q. refl))

-- the prices from a gap on
pub prices_from_gap : (prices : PriceList) (c : Cusip) (i : ℕ) → i ≤ length prices → IsPartitionPoint (λ e. slice_cmp nat_cmp e.0 c ≡ Less) (λ e. slice_cmp nat_cmp e.0 c ≡ Greater) prices i → drop i prices ≡ prices_above prices (Some c)
prices_from_gap prices c i le h = grind (arith, filter_back, nat_list_cmp_total.antisymm)

-- the prices past that of the issue
pub prices_past : (prices : PriceList) (c : Cusip) (i : ℕ) → is_sorted (slice_cmp nat_cmp) prices ≡ true → i < length prices → HoldsAt (λ e. slice_cmp nat_cmp e.0 c ≡ Equal) prices i → drop (i + 1) prices ≡ prices_above prices (Some c)
prices_past prices c i s lt tied = grind (arith, filter_back, (λ (k : ℕ) (d : Cusip × Price). nat_list_cmp_total.congr (get_or prices i d).0 c (get_or prices k d).0 (tied d)), nat_list_cmp_total.antisymm, below_later nat_list_cmp_total prices)

-- what stands at a place, if anything does, where the prices above an issue begin there
pub price_at : (prices : PriceList) (after : Option Cusip) (i : ℕ) (r : Option (Bor (Cusip × Price))) → is_sorted (slice_cmp nat_cmp) prices ≡ true → drop i prices ≡ prices_above prices after
    → MatchOption r (length prices ≤ i) (λ x. (i < length prices) × HoldsAt (λ y. x.now ≡ y) prices i)
    → MatchOption (option_copied r) (prices_above prices after ≡ []) (λ e. prices_above prices after ≡ e ∷ prices_above prices (Some e.0))
price_at prices after i None s whole h = sym whole ∙ drop_all i prices h
price_at prices after i (Some x) s whole h = grind (arith, left_first prices i x.now h.0 (h.1 x.now), next_above nat_list_cmp_total (is_after after) prices x.now (drop (i + 1) prices) (λ c d p l. grind (arith, nat_list_cmp_total.trans)) s)
