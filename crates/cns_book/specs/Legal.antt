-- What a book keeps true of its history and its parts.
use Rattle.std.specs.Prelude.{◌≡◌, ℕ, ◌-◌, ◌<◌, ◌≤◌, List, length, slice_index}
use Rattle.cns_book.specs.Common.{IsLegal, accepted, count, history_limit, Taken, Worker}
use Rattle.cns_book.specs.Contents.{Contents}
use Rattle.cns_book.specs.Follows.{Follows}

-- the history is legal and within its limit, and all that is kept beside it follows from it
pub record IsBook (limit : ℕ) (history : List Taken) (counts : List ℕ) (parts : Contents) : Type 0 where
  pub few : length history ≤ limit
  pub limited : limit < history_limit
  pub legal : IsLegal parts.opening history
  pub counted : (w : Worker) → 1 ≤ w → w ≤ 64 → slice_index counts (w - 1) ≡ count history w
  pub follows : Follows (accepted parts.opening history) parts
