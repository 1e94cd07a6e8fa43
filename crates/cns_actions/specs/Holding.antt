-- The members with a position or an age in an issue, account by account.
use Rattle.std.specs.Prelude.{Bool, true, not, ◌&&◌, ◌==◌, nat_lt, List, filter, Option, Some, None, if◌then◌else◌}
use Rattle.cns_actions.specs.Common.{Account, Cusip, corporation, Key, Rows, held_above, holding_at, Holder}
use Rattle.cns_actions.specs.Changes.{has_position_or_age, holder_of, holders_in}

-- whether a key's account comes after those that are passed, if any are
abbrev pub is_left : Option Key → Key → Bool
is_left None k = true
is_left (Some passed) k = nat_lt passed.account k.account

-- the members with a position or an age in an issue whose accounts are left
abbrev pub holders_after : Rows → Cusip → Option Key → List Holder
holders_after rows c passed = holders_in has_position_or_age c (filter (λ r. is_left passed r.0) (held_above rows None))

-- whether a key is of another account than that which was passed last
abbrev pub is_of_next : Option Key → Key → Bool
is_of_next None k = true
is_of_next (Some passed) k = not (passed.account == k.account)

-- an account as a member with a position or an age in an issue, if it is one
abbrev pub holder_at : Rows → Account → Cusip → Option Holder
holder_at rows a c =
    let k : Key = record { account = a; issue = c } in
    let h = holding_at rows k in
    if nat_lt corporation a && has_position_or_age h then Some (holder_of (k, h)) else None
