-- The statements of all accounts of a day.
use Rattle.std.specs.Prelude.{◌==◌, List, [], ◌∷◌, ◌++◌, Bool, true, not, if◌then◌else◌, Option, Some, None, map}
use Rattle.cns_terms.specs.Common.{Account, DaySheet, rows_for, total}
use Rattle.std.specs.declared.alloc.Global.{Global}
use Rattle.cns_terms.specs.declared.sheet.Row.{Row}
use Rattle.cns_statements.specs.declared.contents.Statement.{Statement}

-- an account's statement on a sheet
abbrev pub statement_on : DaySheet → Account → Statement Global
statement_on s a =
    let rows = rows_for s.rows a in
    record { account = a; date = s.date; rows = rows; mark = total (λ r. r.mark) rows; dividend = total (λ r. r.dividend) rows }

-- whether an account is not the one before
abbrev pub is_next : Option Account → Account → Bool
is_next None a = true
is_next (Some b) a = not (b == a)

-- the accounts of rows, each once where its rows stand together; none for rows of the account before
abbrev pub accounts_after : Option Account → List Row → List Account
accounts_after before [] = []
accounts_after before (r ∷ rs) = (if is_next before r.account then r.account ∷ [] else []) ++ accounts_after (Some r.account) rs

-- the accounts that have a row, in the order of rows
abbrev pub accounts_of : List Row → List Account
accounts_of rows = accounts_after None rows

-- the statements of all accounts that have a row
abbrev pub statements_of : DaySheet → List (Statement Global)
statements_of s = map (statement_on s) (accounts_of s.rows)
