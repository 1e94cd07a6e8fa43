-- The page of an account's closed day.
use Rattle.std.specs.Prelude.{◌≡◌, ℕ, ◌==◌, ◌||◌, Bool, if◌then◌else◌, List, [], ◌∷◌, ◌++◌, filter, filter_map, map, Some}
use Rattle.std.specs.Arc.{arc_value}
use Rattle.cns_page.specs.Common.{decimal, day_text, Account, Day, state_of, fail, fail_text, mark_text, position_text, Fail, piece_text, HasMore, Page, shown, STYLE, ClosedDay, START, Aged, Due, Piece, filled, About}
use Rattle.cns_account.specs.Dividends.{dividend_text, dividends_paid}
use Rattle.cns_account.specs.Rows.{account_row, mark_row, totals_of}
use Rattle.cns_account.specs.declared.row.AccountRow.{AccountRow}
use Rattle.cns_account.specs.declared.row.Totals.{Totals}
use Rattle.cns_day.specs.Due.{projected_all, projected_text}
use Rattle.cns_day.specs.Listed.{next_day}
use Rattle.cns_day.specs.Rows.{due_text, notice_row, owing_text}
use Rattle.cns_exceptions.specs.Exceptions.{finding_text}
use Rattle.cns_exceptions.specs.Survey.{names}
use Rattle.cns_exceptions.specs.declared.finding.Cited.{Cited}
use Rattle.cns_history.specs.Lines.{booking_for}
use Rattle.cns_history.specs.Texts.{booked_text}
use Rattle.cns_page.specs.Foot.{foot_text}
use Rattle.cns_page.specs.declared.account.OwnCaptions.{OwnCaptions}
use Rattle.cns_page.specs.declared.account.TheConstants.{HEAD, LINKED, MAIN}
use Rattle.cns_terms.specs.Sheets.{rows_for, statement}
use Rattle.cns_terms.specs.declared.reply.Stated.{Stated}

-- ---- the head

-- the rows of its statement, in order, each with what moved it
abbrev pub account_rows : ClosedDay → Account → List AccountRow
account_rows d a = map (account_row (state_of d.source.now.played.book.log) d.shared.moves) (rows_for (arc_value d.sheet).rows a)

-- the account and the day in the title and in the heading, the day's number, what the positions above 0, those below 0 and all are
-- worth, the marks and the dividends of the statement, and the next day
unfoldable pub head_text : Stated → Totals → ClosedDay → List ℕ
head_text s t d =
    let c = d.close in
    filled HEAD.now (START.now ∷ decimal s.account ∷ day_text c.date ∷ STYLE.now ∷ decimal s.account ∷ day_text c.date ∷ decimal c.day
    ∷ piece_text (Piece.Amount t.long) ∷ piece_text (Piece.Amount t.short) ∷ piece_text (Piece.Amount t.net)
    ∷ piece_text (Piece.Amount s.mark) ∷ piece_text (Piece.Amount s.dividend) ∷ day_text (next_day d.source.now.played.book.log) ∷ [])

-- the link to the page of the day, where there is one, and the end of the head
abbrev pub nav_text : Bool → Day → List ℕ
nav_text linked d = if linked then filled LINKED.now (day_text d ∷ []) else MAIN.now

pub record IsHeaded (a : Account) (d : ClosedDay) (rows : List AccountRow) (p : Page) : Type 0 where
  pub text : p.text.items ≡ head_text (statement (arc_value d.sheet) a) (totals_of rows) d ++ nav_text d.is_linked d.close.date
  pub none : p.rows ≡ 0

-- ---- tables that are added to a page, each with exactly these rows in order

-- positions, and how their marks come about
abbrev pub shows_marks : OwnCaptions → List AccountRow → List (List ℕ × ℕ)
shows_marks t rows = shown position_text t.positions rows ∷ shown mark_text t.marks (map mark_row rows) ∷ []

-- a short, with its first close and what the price did to it since
abbrev pub fail_at : ClosedDay → Aged → Fail
fail_at d s = fail (state_of d.source.now.played.book.log) d.source.now.played.survey.past d.close.date s.row s.age

-- its fails: its shorts among those of all members
abbrev pub own_fails : Account → ClosedDay → List Fail
own_fails a d = map (fail_at d) (filter (λ s. s.row.account == a) d.shared.shorts.items)

-- the dividends that the close paid it, what is due, and its fails
abbrev pub shows_shorts : OwnCaptions → Account → ClosedDay → List (List ℕ × ℕ)
shows_shorts t a d =
    let S = state_of d.source.now.played.book.log in
    shown dividend_text t.dividends (dividends_paid S d.source.now.played.survey.past a (arc_value d.sheet))
    ∷ shown projected_text t.due (projected_all S a d.shared.later (arc_value d.sheet).prices) ∷ shown fail_text t.fails (own_fails a d) ∷ []

-- whether a trade is the account's
abbrev pub is_party : Account → Due → Bool
is_party a d = d.trade.buyer == a || d.trade.seller == a

-- its liabilities, its live notices, and its trades that settle later
abbrev pub shows_coming : OwnCaptions → Account → ClosedDay → List (List ℕ × ℕ)
shows_coming t a d =
    shown owing_text t.liable (filter (λ o. o.liable.member == a) d.shared.liable.items)
    ∷ shown notice_row t.notices (filter (λ n. n.notice.member == a) d.shared.notices.items)
    ∷ shown due_text t.trades (filter (is_party a) d.shared.trades.items) ∷ []

-- what the day's records booked for it, by their lines, and the first refused records that name it
pub record ShowsRecords (t : OwnCaptions) (a : Account) (d : ClosedDay) (old new : Page) : Type 0 where
  pub exceptions : List Cited
  pub are : map (λ c. c.finding.now) exceptions ≡ filter (names a) d.source.now.played.survey.findings.items
  pub added : HasMore (shown booked_text t.bookings (filter_map (booking_for a) d.source.now.played.lines.items)
      ∷ shown (λ c. finding_text c.finding.now) t.exceptions exceptions ∷ []) old new

-- ---- the page

-- a text is the page of what a closed day did to an account, with some captions: the head, these tables in this order, and the foot
pub record IsOwnPage (d : ClosedDay) (a : Account) (text : List ℕ) : Type 0 where
  pub captions : OwnCaptions
  pub start : Page
  pub marked : Page
  pub short : Page
  pub coming : Page
  pub whole : Page
  pub head : IsHeaded a d (account_rows d a) start
  pub marks : HasMore (shows_marks captions (account_rows d a)) start marked
  pub shorts : HasMore (shows_shorts captions a d) marked short
  pub to_come : HasMore (shows_coming captions a d) short coming
  pub records : ShowsRecords captions a d coming whole
  pub foot : text ≡ whole.text.items ++ foot_text d.source.now (Some d.close.date) (About.Account a) whole.rows
