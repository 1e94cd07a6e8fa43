-- The page of the history of a position.
use Rattle.std.specs.Prelude.{◌≡◌, ℕ, ℤ, List, [], ◌∷◌, ◌++◌, map, Option, option_map}
use Rattle.cns_page.specs.Common.{decimal, day_text, Day, escaped, filled, piece_text, position_shown, state_of, shown, HasMore, Key, Page, Piece, START, STYLE, Source, About}
use Rattle.cns_terms.specs.Common.{State}
use Rattle.cns_history.specs.Texts.{line_text}
use Rattle.cns_page.specs.Foot.{foot_text}
use Rattle.cns_page.specs.declared.history.TheConstants.{CAPTION, COLUMNS, HEAD, NONE, TITLE}
use Rattle.cns_tables.specs.declared.table.Table.{Table}

-- the title, the caption, the columns and the words of none of its table
pub record IsCaptioned (t : Table) : Type 0 where
  pub title : t.title.now ≡ TITLE.now
  pub caption : t.caption.now ≡ CAPTION.now
  pub none : t.none.now ≡ NONE.now
  pub columns : map (λ c. c.now) t.columns.now ≡ map (λ c. c.now) COLUMNS

-- the position at a place; None where a POSITION would be refused
abbrev pub position_at : State → Key → Option ℤ
position_at S k = option_map (λ h. h.now) (position_shown S k)

-- the head: the account and the issue in the title and in the heading, the date on which the book opened, how many records there
-- are, and the position that they end with
unfoldable pub head_text : Key → Source → Option ℤ → List ℕ
head_text k s position =
    filled HEAD.now (START.now ∷ decimal k.account ∷ escaped k.issue ∷ STYLE.now ∷ decimal k.account ∷ escaped k.issue
    ∷ day_text s.opening ∷ decimal s.played.survey.records ∷ piece_text (Piece.Position position) ∷ [])

-- a text is the page of the history of a place: the head, a table with the lines that were watched, in order, and the foot
pub record IsHistoryPage (k : Key) (day : Option Day) (s : Source) (text : List ℕ) : Type 0 where
  pub table : Table
  pub captioned : IsCaptioned table
  pub start : Page
  pub whole : Page
  pub head : start.text.items ≡ head_text k s (position_at (state_of s.played.book.log) k)
  pub none : start.rows ≡ 0
  pub lines : HasMore (shown line_text table s.played.lines.items ∷ []) start whole
  pub foot : text ≡ whole.text.items ++ foot_text s day (About.Place k) whole.rows
