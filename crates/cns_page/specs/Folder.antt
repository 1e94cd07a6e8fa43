-- The pages of a closed day that were kept.
use Rattle.std.specs.Prelude.{◌≡◌, ℕ, List, [], ◌∷◌, Option, None, Some, map, slice_get}
use Rattle.std.specs.Arc.{arc_value}
use Rattle.cns_page.specs.Common.{Account, state_of, accounts_of, ClosedDay, Whose}
use Rattle.cns_page.specs.Account.{IsOwnPage}
use Rattle.cns_page.specs.Files.{KeptPages, and_kept}
use Rattle.cns_page.specs.Page.{IsDayPage}

-- the page of each account was kept, by its date and number
abbrev pub KeepsOwn : ClosedDay → List Account → Option KeptPages → Option KeptPages → Type 0
KeepsOwn d [] old new = new ≡ old
KeepsOwn d (a ∷ others) old new =
    (text : List ℕ) × IsOwnPage d a text × KeepsOwn d others (and_kept old (record { date = d.close.date; account = Some a }) text) new

-- the accounts of a closed day: those that have a position in the first of the listed issues
abbrev pub accounts_on : ClosedDay → List Account
accounts_on d = accounts_of Whose.All (state_of d.source.now.played.book.log) (slice_get (map (λ e. e.0) (arc_value d.sheet).prices) 0)

-- the pages of the accounts were kept, and then that of the day, by its date
abbrev pub KeepsDay : ClosedDay → Option KeptPages → Option KeptPages → Type 0
KeepsDay d old new =
    (mid : Option KeptPages) × KeepsOwn d (accounts_on d) old mid × (text : List ℕ) × IsDayPage d (accounts_on d) text
    × (new ≡ and_kept mid (record { date = d.close.date; account = None }) text)
