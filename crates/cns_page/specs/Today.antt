-- The page of the day that is open.
use Rattle.std.specs.Prelude.{◌≡◌, ℕ, ◌-◌, List, [], ◌∷◌, ◌++◌, length, None}
use Rattle.cns_page.specs.Common.{decimal, day_text, day, journal_of, state_of, count_text, STYLE, Captions, Page, Played, START, Source, filled, About}
use Rattle.cns_day.specs.Listed.{next_day}
use Rattle.cns_page.specs.Foot.{foot_text}
use Rattle.cns_page.specs.Page.{ShowsExceptions, ShowsTotals}
use Rattle.cns_page.specs.declared.today.TheConstants.{HEAD}

-- the head: the date and the number of the day, the number of the record before it, how many records it has, and how many of
-- them are exceptions
unfoldable pub head_text : Played → List ℕ
head_text p =
    let d = day_text (next_day p.book.log) in
    let s = p.survey in
    filled HEAD.now (START.now ∷ d ∷ STYLE.now ∷ d ∷ decimal (day (journal_of (state_of p.book.log))) ∷ decimal s.from
    ∷ count_text (s.records - s.from) ∷ count_text (length s.reasons.items) ∷ [])

-- a text is the page of the day that is open after all records, with some captions: the head, these tables in this order, and the foot
pub record IsTodayPage (s : Source) (text : List ℕ) : Type 0 where
  pub captions : Captions
  pub start : Page
  pub excepted : Page
  pub whole : Page
  pub head : start.text.items ≡ head_text s.played
  pub none : start.rows ≡ 0
  pub exceptions : ShowsExceptions captions s.played.survey start excepted
  pub totals : ShowsTotals captions s.played.survey excepted whole
  pub foot : text ≡ whole.text.items ++ foot_text s None About.All whole.rows
