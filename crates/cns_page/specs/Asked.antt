-- The page that is asked for.
use Rattle.std.specs.Prelude.{◌≡◌, ℕ, List, [], Option, None, Some, Bool, true, false}
use Rattle.cns_page.specs.Common.{Account, Appends, About, Asked, When, ClosedDay, Source}
use Rattle.cns_page.specs.Account.{IsOwnPage}
use Rattle.cns_page.specs.Closed.{IsClosedDay, is_folder}
use Rattle.cns_page.specs.Files.{KeptPages}
use Rattle.cns_page.specs.Folder.{KeepsDay}
use Rattle.cns_page.specs.History.{IsHistoryPage}
use Rattle.cns_page.specs.Page.{IsDayPage}
use Rattle.cns_asked.specs.Asks.{closed_date}
use Rattle.cns_page.specs.Source.{IsSource}
use Rattle.cns_page.specs.Today.{IsTodayPage}

-- a text is the page of a closed day, of all accounts or of one
abbrev pub IsDayOf : Option Account → ClosedDay → List ℕ → Type 0
IsDayOf None d text = IsDayPage d [] text
IsDayOf (Some a) d text = IsOwnPage d a text

-- of the closed day that is asked for
abbrev pub IsClosedPage : Option Account → Asked → Source → List ℕ → Type 0
IsClosedPage account asked s text = (d : ClosedDay) × IsClosedDay asked s d × IsDayOf account d text

-- that of all accounts, of the open day or of a closed one
abbrev pub IsWholePage : When → Asked → Source → List ℕ → Type 0
IsWholePage When.Today asked s text = IsTodayPage s text
IsWholePage _ asked s text = IsClosedPage None asked s text

-- a text is the page that is asked for, of its records: the history of a place, the page of an account, or that of all accounts
abbrev pub IsPage : About → Asked → Source → List ℕ → Type 0
IsPage (About.Place k) asked s text = IsHistoryPage k (closed_date asked.day) s text
IsPage (About.Account a) asked s text = IsClosedPage (Some a) asked s text
IsPage _ asked s text = IsWholePage asked.day asked s text

-- what was written of the records: the page; nothing where pages go into a folder
abbrev pub Writes : Bool → Asked → Source → Option (List ℕ) → Option (List ℕ) → Type 0
Writes true asked s old new = new ≡ old
Writes false asked s old new = (text : List ℕ) × IsPage asked.about asked s text × Appends old new text

-- what was kept of them: the pages of the closed day where they go into a folder, else nothing
abbrev pub Keeps : Bool → Asked → Source → Option KeptPages → Option KeptPages → Type 0
Keeps true asked s old new = (d : ClosedDay) × IsClosedDay asked s d × KeepsDay d old new
Keeps false asked s old new = new ≡ old

-- what was written of an input
abbrev pub HasPage : Asked → List ℕ → Option (List ℕ) → Option (List ℕ) → Type 0
HasPage asked input old new = (s : Source) × IsSource asked input s × Writes (is_folder asked.about) asked s old new

-- what was kept of it
abbrev pub HasKept : Asked → List ℕ → Option KeptPages → Option KeptPages → Type 0
HasKept asked input old new = (s : Source) × IsSource asked input s × Keeps (is_folder asked.about) asked s old new
