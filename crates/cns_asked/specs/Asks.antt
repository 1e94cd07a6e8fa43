-- What a line asks for, as `clap` reads its words.
use Rattle.std.specs.Prelude.{Bool, is_some, List, [], unwrap_or, Option, Some, None, if◌then◌else◌, option_and_then, option_map, codes}
use Rattle.cns_units.specs.Day.{day_of}
use Rattle.cns_units.specs.declared.day.Day.{Day}
use Rattle.cns_asked.specs.declared.asked.About.{About}
use Rattle.cns_asked.specs.declared.asked.Asked.{Asked}
use Rattle.cns_asked.specs.declared.asked.When.{When}
use Rattle.std.specs.Result.{result_ok}
use Rattle.std.specs.Str.{bytes_eq}
use Rattle.clap.specs.Words.{App, Row, Text, first_of, matches_of, with_rule}
use Rattle.cns_units.specs.Cusip.{cusip_of}
use Rattle.cns_feed.specs.Digits.{number_in}
use Rattle.cns_shell.specs.Options.{bare, date_in, free_rule, if_taken, option_rule}
use Rattle.cns_asked.specs.declared.asked.About.TheVariants as about

-- the date of the closed day that is asked for, if one is given
abbrev pub closed_date : When → Option Day
closed_date (When.Closed d) = Some d
closed_date _ = None

-- the date on which the book opens, and a day, where it is given
unfoldable pub dated_line : App
dated_line = with_rule (with_rule (bare (codes "cnspage")) (option_rule (codes "open"))) (free_rule (codes "day"))

-- and, where they are given, an account, an issue and a folder
unfoldable pub page_line : App
page_line = with_rule (with_rule (with_rule dated_line (free_rule (codes "account"))) (free_rule (codes "issue"))) (free_rule (codes "folder"))

-- what was found for the options; None where the line is not taken
abbrev pub found_by : List Text → Option (List Row)
found_by words = if_taken page_line words (Some (matches_of page_line words))

-- the day of an option that may be missing: then the last closed one, and of a history the open one; None where it is there, and neither
-- `today` nor a date
abbrev pub day_read : Bool → Option Text → Option When
day_read history None = Some (if history then When.Today else When.Last)
day_read history (Some t) = if bytes_eq t (codes "today") then Some When.Today else option_map When.Closed (result_ok (day_of t))

-- what the page is about, of options that may be missing: all accounts, one account, its place in an issue, or all into a folder;
-- None where one of the two is none, an issue is there without an account, or a folder with one of them
abbrev pub about_read : Option Text → Option Text → Option Text → Option About
about_read None None None = Some about.All
about_read (Some a) None None = option_map about.Account (result_ok (number_in 0 9999 a))
about_read (Some a) (Some c) None = option_and_then
    (λ account. option_map (λ issue. about.Place (record { account = account; issue = issue })) (result_ok (cusip_of c)))
    (result_ok (number_in 0 9999 a))
about_read None None (Some f) = Some about.Folder
about_read _ _ _ = None

-- what the options ask for
abbrev pub asked_in : List Row → Option Asked
asked_in rows = option_and_then
    (λ opening. option_and_then
    (λ day. option_map (λ about. record { opening = opening; day = day; about = about })
    (about_read (first_of (codes "account") rows) (first_of (codes "issue") rows) (first_of (codes "folder") rows)))
    (day_read (is_some (first_of (codes "issue") rows)) (first_of (codes "day") rows)))
    (date_in rows (codes "open"))

-- what the words of a line ask for; None where the line is refused
abbrev pub question : List Text → Option Asked
question words = option_and_then asked_in (found_by words)

-- the name of the folder; empty where none is given
abbrev pub folder_in : List Text → Text
folder_in words = unwrap_or (option_and_then (first_of (codes "folder")) (found_by words)) []
