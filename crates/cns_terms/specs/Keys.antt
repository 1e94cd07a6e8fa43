-- Keys: their order, and those of entries and of rows.
use Rattle.std.specs.Prelude.{Bool, Option, Some, None, true}
use Rattle.std.specs.declared.cmp.Ordering.{Ordering}
use Rattle.cns_terms.specs.Types.{slice_cmp, nat_cmp, ordering_then, is_lt, Entry, Key, Row}

-- by account, and then by the bytes of the issue
abbrev pub key_cmp : Key → Key → Ordering
key_cmp a b = ordering_then (nat_cmp a.account b.account) (slice_cmp nat_cmp a.issue b.issue)

-- whether a key is above another, if there is another
abbrev pub key_after : Option Key → Key → Bool
key_after None k = true
key_after (Some low) k = is_lt (key_cmp low k)

-- where an entry is booked
abbrev pub entry_key : Entry → Key
entry_key e = record { account = e.account; issue = e.issue }

-- the place of a row
abbrev pub row_key : Row → Key
row_key r = record { account = r.account; issue = r.issue }
