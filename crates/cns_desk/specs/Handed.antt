-- What comes with the reply to a statement.
use Rattle.std.specs.Prelude.{◌≡◌, true, Option, Some, None}
use Rattle.cns_terms.specs.Common.{Day, DaySheet, is_same_day, statement}
use Rattle.cns_terms.specs.declared.reply.Reply.{Reply}
use Rattle.cns_terms.specs.declared.reply.Stated.{Stated}

-- the sheet has the date, and the reply tells of its rows of the corporation
pub record IsStated (date : Day) (s : Stated) (o : Option DaySheet) : Type 0 where
  pub sheet : DaySheet
  pub is : o ≡ Some sheet
  pub dated : is_same_day sheet.date date ≡ true
  pub stated : s ≡ statement sheet 0

-- a sheet is handed out exactly where the reply is Stated
abbrev pub Hands : Day → Reply → Option DaySheet → Type 0
Hands date (Reply.Stated s) o = IsStated date s o
Hands date _ o = o ≡ None
