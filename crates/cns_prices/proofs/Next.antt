-- The first listed issue above another.
-- For `next_listed` of prices.rt.
use Rattle.cns_prices.proofs.Common.{◌≡◌, ◌∙◌, sym, ap, true, ◌∷◌, map, filter, Option, Some, None, is_lt, nat_cmp, Less, Cusip, is_sorted, less, nat_list_cmp_total, next_above, range_contains, slice_cmp, Quote, Listed, is_after, listed_above, arith}
use Rattle.std.specs.declared.ops.Bound.{Bound}
use Rattle.std.specs.declared.ops.Bound.TheVariants.{Excluded, Unbounded}

-- where a search above an issue starts
abbrev pub start_of : Option Cusip → Bound Cusip
start_of None = Unbounded
start_of (Some low) = Excluded low

is_within : (after : Option Cusip) (c : Cusip) → range_contains (slice_cmp nat_cmp) (start_of after) Unbounded c ≡ is_after after c
is_within after c = grind (arith, is_lt, slice_cmp, nat_cmp)

-- the same entries by the two tests
same_entries : (after : Option Cusip) (es : Listed) → filter (λ e. range_contains (slice_cmp nat_cmp) (start_of after) Unbounded e.0) es ≡ filter (λ e. is_after after e.0) es
same_entries after es i = filter (λ e. is_within after e.0 i) es

later : (after : Option Cusip) (c d : Cusip) → is_after after c ≡ true → slice_cmp nat_cmp c d ≡ Less → is_after after d ≡ true
later after c d h1 h2 = grind (arith, is_lt, nat_list_cmp_total, less)

-- the first, and the rest above it
pub next_listed : (es r rest : Listed) (after : Option Cusip) (c : Cusip) (q : Quote) → is_sorted (slice_cmp nat_cmp) es ≡ true → r ≡ filter (λ e. range_contains (slice_cmp nat_cmp) (start_of after) Unbounded e.0) es
    → r ≡ (c, q) ∷ rest → listed_above es after ≡ (c, q.price) ∷ listed_above es (Some c)
next_listed es r rest after c q s is h =
    let whole : filter (λ e. is_after after e.0) es ≡ (c, q) ∷ rest = sym (same_entries after es) ∙ sym is ∙ h in
    let more : filter (λ e. is_after (Some c) e.0) es ≡ rest = next_above nat_list_cmp_total (is_after after) es (c, q) rest (later after) s whole in
    ap (map (λ e. (e.0, e.1.price))) whole ∙ ap (λ (xs : Listed). (c, q.price) ∷ map (λ e. (e.0, e.1.price)) xs) (sym more)
