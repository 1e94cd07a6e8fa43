-- What the notices of a day call for, and who is short, by what the parts show.
use Rattle.std.specs.Prelude.{ℕ, ◌+◌, pos, int_lt, Bool, ◌&&◌, ◌==◌, nat_lt, List, ◌++◌, Option, Some, None, sum_by, if◌then◌else◌}
use Rattle.cns_book.specs.Common.{Account, Cusip, oldest_of, same_issue, short, Noticed, remaining_of, Rows, holding_at}
use Rattle.cns_terms.specs.declared.buy_in.Short.{Short}
use Rattle.cns_terms.specs.declared.sheet.Row.{Row}
use Rattle.cns_retransmit.specs.Calls.{CalledIn}

-- what remains of a notice, by its member's position
abbrev pub remaining_by : Rows → Noticed → ℕ
remaining_by rows x = remaining_of (holding_at rows (record { account = x.given.member; issue = x.given.issue })).now x

-- what a notice calls for in an issue, if it is of the day
abbrev pub call_of : Rows → ℕ → Cusip → Noticed → ℕ
call_of rows n c x = if (x.given.day == n) && same_issue x.given.issue c then remaining_by rows x else 0

-- what notices call for in an issue on a day
abbrev pub called_by : Rows → ℕ → Cusip → List Noticed → ℕ
called_by rows n c xs = sum_by (call_of rows n c) xs

-- the age of an account's short to which the next close adds itself
abbrev pub oldest_at : Rows → Account → Cusip → ℕ
oldest_at rows a c = oldest_of (holding_at rows (record { account = a; issue = c }))

-- what is called in an issue, with more shorts
abbrev pub with_shorts : List Short → CalledIn → CalledIn
with_shorts ss x = record { total = x.total; shorts = x.shorts ++ ss }

-- ---- shorts read off a sheet

-- whether a row is a member's that closes short in the issue
abbrev pub is_short_in : Cusip → Row → Bool
is_short_in c r = nat_lt 0 r.account && (int_lt r.closing (pos 0) && same_issue r.issue c)

-- the short of a row, one close older than before its close
abbrev pub short_at : (Account → Cusip → ℕ) → Row → Short
short_at age r = record { member = r.account; shares = short r.closing; age = age r.account r.issue + 1 }

-- the short of a row, if it is a member's that closes short in the issue
abbrev pub short_in : (Account → Cusip → ℕ) → Cusip → Row → Option Short
short_in age c r = if is_short_in c r then Some (short_at age r) else None
