-- The page of a closed day.
use Rattle.std.specs.Prelude.{◌≡◌, ℕ, ◌+◌, ◌-◌, ◌^◌, if◌then◌else◌, List, [], ◌∷◌, ◌++◌, Option, None, Some, map, min, length}
use Rattle.std.specs.Arc.{arc_value}
use Rattle.std.specs.BTreeMap.{IsOrdered, keys}
use Rattle.cns_page.specs.Common.{Account, key_cmp, decimal, flat_map, day_text, Day, count_text, HasMore, Page, shown, STYLE, Captions, ClosedDay, START, Survey, state_of, filled, About}
use Rattle.cns_page.specs.declared.page.TheConstants.{DAY_AFTER, DAY_BEFORE, HEAD, LINK, LINKED, MAIN}
use Rattle.cns_page.specs.Closed.{date_before}
use Rattle.cns_day.specs.Due.{due_at, due_at_text}
use Rattle.cns_day.specs.Issues.{AreIssues, sums_text}
use Rattle.cns_day.specs.Listed.{figures_shown, next_day}
pub use Rattle.cns_day.specs.Listed.{last_closes}
use Rattle.cns_day.specs.Rows.{due_text, figures_text, notice_row, owing_text, short_text}
use Rattle.cns_day.specs.Summary.{line_text, sheet_lines}
use Rattle.cns_day.specs.declared.issues.IssueSums.{IssueSums}
use Rattle.cns_exceptions.specs.Counts.{counted, counted_text, counts, counts_shown, span_text, spans_shown}
use Rattle.cns_exceptions.specs.Exceptions.{finding_text}
use Rattle.cns_exceptions.specs.declared.counts.Counted.{Counted}
use Rattle.cns_exceptions.specs.declared.counts.Span.{Span}
use Rattle.cns_page.specs.Foot.{foot_text}

-- ---- the head

-- the date in the title and in the heading, the day's number, its first and last record, how many of them are exceptions, and the date of
-- the next day
unfoldable pub head_text : ClosedDay → List ℕ
head_text d =
    let c = d.close in
    let s = d.source.now.played.survey in
    filled HEAD.now (START.now ∷ day_text c.date ∷ STYLE.now ∷ day_text c.date ∷ decimal c.day ∷ decimal (min (s.from + 1) (2 ^ 64 - 1))
    ∷ decimal c.number ∷ count_text (length s.reasons.items) ∷ day_text (next_day d.source.now.played.book.log) ∷ [])

-- the link to the page of the day before, if there was one
abbrev pub before_text : Option Day → List ℕ
before_text None = []
before_text (Some d) = filled DAY_BEFORE.now (day_text d ∷ [])

-- a link to the page of an account
abbrev pub link_text : Day → Account → List ℕ
link_text d a = filled LINK.now (day_text d ∷ decimal a ∷ decimal a ∷ [])

-- the links to the pages of the day before, of the next day, and of the accounts, where the page has links
abbrev pub links_text : ClosedDay → List Account → List ℕ
links_text d accounts =
    if d.is_linked then before_text (date_before d.source.now.closes.items)
    ++ (filled DAY_AFTER.now (day_text (next_day d.source.now.played.book.log) ∷ []) ++ (flat_map (link_text d.close.date) accounts ++ LINKED.now)) else []

pub record IsHeaded (d : ClosedDay) (accounts : List Account) (p : Page) : Type 0 where
  pub text : p.text.items ≡ head_text d ++ (links_text d accounts ++ MAIN.now)
  pub none : p.rows ≡ 0

-- ---- tables that are added to a page, each with exactly these rows in order

-- the exceptions of a day that are shown, and how many there are of which kind
pub record ShowsExceptions (t : Captions) (s : Survey) (old new : Page) : Type 0 where
  pub reasons : List Counted
  pub are : map counted reasons ≡ counts_shown s.reasons.items
  pub added : HasMore (shown finding_text t.exceptions s.findings.items ∷ shown counted_text t.reasons reasons ∷ []) old new

-- the summary, the sums by issue, and fails
pub record ShowsPositions (t : Captions) (d : ClosedDay) (old new : Page) : Type 0 where
  pub issues : List IssueSums
  pub are : AreIssues (arc_value d.sheet).rows issues
  pub added : HasMore (shown line_text t.accounts (sheet_lines (arc_value d.sheet) d.shared.moves) ∷ shown sums_text t.issues issues
      ∷ shown short_text t.fails d.shared.shorts.items ∷ []) old new

-- liable members, live notices, what is due where a trade settles later, these trades, and the last days
pub record ShowsComing (t : Captions) (d : ClosedDay) (old new : Page) : Type 0 where
  pub rising : IsOrdered key_cmp d.shared.later.shares
  pub added : HasMore (shown owing_text t.liable d.shared.liable.items ∷ shown notice_row t.notices d.shared.notices.items
      ∷ shown due_at_text t.due (map (due_at (state_of d.source.now.played.book.log) d.shared.later) (keys d.shared.later.shares))
      ∷ shown due_text t.projection d.shared.trades.items
      ∷ shown figures_text t.days (figures_shown (state_of d.source.now.played.book.log) (last_closes d.source.now.closes.items)) ∷ []) old new

-- the control totals
pub record ShowsTotals (t : Captions) (s : Survey) (old new : Page) : Type 0 where
  pub totals : List Span
  pub are : map counts totals ≡ spans_shown s
  pub added : HasMore (shown span_text t.totals totals ∷ []) old new

-- ---- the page

-- a text is the page of a closed day, with some captions and with links to the pages of accounts: the head, these tables in this order, and
-- the foot
pub record IsDayPage (d : ClosedDay) (accounts : List Account) (text : List ℕ) : Type 0 where
  pub captions : Captions
  pub start : Page
  pub excepted : Page
  pub positioned : Page
  pub coming : Page
  pub whole : Page
  pub head : IsHeaded d accounts start
  pub exceptions : ShowsExceptions captions d.source.now.played.survey start excepted
  pub positions : ShowsPositions captions d excepted positioned
  pub to_come : ShowsComing captions d positioned coming
  pub totals : ShowsTotals captions d.source.now.played.survey coming whole
  pub foot : text ≡ whole.text.items ++ foot_text d.source.now (Some d.close.date) About.All whole.rows
