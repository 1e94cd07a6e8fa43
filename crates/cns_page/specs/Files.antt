-- The names of the files of a folder.
use Rattle.std.specs.Prelude.{ℕ, List, [], ◌∷◌, ◌++◌, Option, option_map}
use Rattle.std.specs.Option.{option_map_or}
use Rattle.cns_page.specs.Common.{day_text, decimal, filled}
use Rattle.cns_page.specs.declared.files.Named.{Named}
use Rattle.cns_page.specs.declared.files.TheConstants.{OF_ACCOUNT, OF_DAY}

-- a file's name but for its end: the date, and the account where the page is one's
abbrev pub name_text : Named → List ℕ
name_text n = option_map_or (λ a. filled OF_ACCOUNT.now (day_text n.date ∷ decimal a ∷ [])) n.account (filled OF_DAY.now (day_text n.date ∷ []))

-- pages with their names
abbrev pub KeptPages : Type 0
KeptPages = List (Named × List ℕ)

-- with one more, where it is known which were kept
abbrev pub and_kept : Option KeptPages → Named → List ℕ → Option KeptPages
and_kept k n page = option_map (λ ps. ps ++ (n, page) ∷ []) k
