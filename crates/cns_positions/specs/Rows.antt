-- Rows of positions: what stands at each key, in the order of keys.
use Rattle.std.specs.Prelude.{◌≡◌, ◌+◌, ◌-◌, ◌^◌, ℕ, ℤ, pos, ◌+ℤ◌, int_lt, Bool, true, ◌&&◌, not, ◌==◌, min, max, List, [], ◌∷◌, ◌++◌, filter, filter_map, map, Option, Some, None, is_some, unwrap_or, if◌then◌else◌}
use Rattle.cns_terms.specs.Common.{cents_for, entry, key_after, key_cmp, oldest_of, same_issue, shares_for, total}
use Rattle.std.specs.Ordering.{int_eq}
use Rattle.std.specs.FinMap.{find}
use Rattle.cns_terms.specs.declared.holding.Key.{Key}
use Rattle.cns_terms.specs.declared.holding.Holding.{Holding}
use Rattle.cns_terms.specs.declared.holding.Entry.{Entry}

abbrev pub Rows : Type 0
Rows = List (Key × Holding)

abbrev pub zeros : Holding
zeros = record { now = pos 0; opening = pos 0; contract = pos 0; run = 0; carried = 0 }

-- what a key's row has, be it zeros; none where the key has no row
unfoldable pub row_at : Rows → Key → Option Holding
row_at rows k = find key_cmp k rows

-- whether the key has a row, be it of zeros
abbrev pub has_row : Rows → Key → Bool
has_row rows k = is_some (find key_cmp k rows)

-- what stands at a key; zeros where it has no row
abbrev pub holding_at : Rows → Key → Holding
holding_at rows k = unwrap_or (find key_cmp k rows) zeros

-- whether anything but zeros stands there
abbrev pub is_held : Holding → Bool
is_held h = not (int_eq h.now (pos 0) && int_eq h.opening (pos 0) && int_eq h.contract (pos 0) && (h.run == 0) && (h.carried == 0))

abbrev pub entry_of : Key → ℤ → ℤ → Entry
entry_of k shares cents = entry k.account k.issue shares cents

-- what an entry makes of what stands at a key
abbrev pub booked : Entry → Key → Holding → Holding
booked e k h = record h { now = h.now +ℤ shares_for k.account k.issue e; contract = h.contract +ℤ cents_for k.account k.issue e }

-- what stands at a key, with an age that is brought there
abbrev pub with_age : ℕ → Holding → Holding
with_age n h = record h { carried = max h.carried n }

-- what an age that is brought to a key makes of what stands at a key
abbrev pub aged : Key → ℕ → Key → Holding → Holding
aged q n k h = if (q.account == k.account) && same_issue q.issue k.issue then with_age n h else h

-- what entries make of it, one after another: its opening and its ages stay
abbrev pub books : List Entry → Key → Holding → Holding
books es k h = record h { now = total (shares_for k.account k.issue) es +ℤ h.now; contract = total (cents_for k.account k.issue) es +ℤ h.contract }

-- what a close makes of it
abbrev pub rolled : Holding → Holding
rolled h = record {
  now = h.now;
  opening = h.now;
  contract = pos 0;
  run = if int_lt h.now (pos 0) then min (oldest_of h + 1) (2 ^ 32 - 1) else 0;
  carried = 0;
}

-- what a close makes of the rows
abbrev pub closed_rows : Rows → Rows
closed_rows rows = map (λ r. (r.0, rolled r.1)) rows

-- the rows above a key that aren't zeros
abbrev pub held_above : Rows → Option Key → Rows
held_above rows after = filter (λ r. key_after after r.0 && is_held r.1) rows

-- the values that are there
abbrev pub present : {X : Type 0} → List (Option X) → List X
present xs = filter_map (λ x. x) xs

-- the key of the last of the given rows; where none is given, the key after which they were asked for
abbrev pub last_of : Option Key → Rows → Option Key
last_of after [] = after
last_of after (r ∷ given) = last_of (Some r.0) given

-- the first of the rows above a key that aren't zeros, as many as are given; none only where none is left
pub record AreNext (rows : Rows) (after : Option Key) (given : Rows) : Type 0 where
  pub first : held_above rows after ≡ given ++ held_above rows (last_of after given)
  pub left : given ≡ [] → held_above rows after ≡ []
