-- What each part of a book shows.
use Rattle.std.specs.Prelude.{ℕ, Bool, List}
use Rattle.cns_book.specs.Common.{Day, DaySheet, Liables, Declared, Holding, Key, Noticed, Listed, Traded}

-- the opening date, the open day, and the maps and sets of the book
pub record Contents : Type 0 where
  pub opening : Day
  pub today : Day
  pub closes : ℕ
  pub members : List Bool
  pub prices : Listed
  pub trades : Traded
  pub dividends : List Declared
  pub rows : List (Key × Holding)
  pub sheets : List DaySheet
  pub notices : List Noticed
  pub batches : List (List Liables)
