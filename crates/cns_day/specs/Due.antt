-- What is due of an account in each issue.
use Rattle.std.specs.Prelude.{◌≡◌, ℕ, ℤ, pos, ◌+ℤ◌, ◌-ℤ◌, Bool, not, ◌&&◌, if◌then◌else◌, List, [], ◌∷◌, filter, map, Option, Some, None, unwrap_or}
use Rattle.cns_day.specs.Common.{get, int_wrap, w64, fold, is_eq, int_eq, Account, Cusip, Price, State, key_cmp, entry_key, place, standing, row_of, ROW, Due, Piece}
use Rattle.cns_terms.specs.Entries.{trade_entries}
use Rattle.cns_terms.specs.Pending.{pend_of}
use Rattle.cns_terms.specs.declared.holding.Entry.{Entry}
use Rattle.cns_terms.specs.declared.holding.Key.{Key}
use Rattle.cns_day.specs.declared.due.DueAt.{DueAt}
use Rattle.cns_day.specs.declared.due.Later.{Later}
use Rattle.cns_day.specs.declared.due.Projected.{Projected}

-- ---- shares of trades that settle later

-- the same at a place with a side of a trade more; as much of the sum as fits
abbrev pub with_side : Key → Option ℤ → Entry → Option ℤ
with_side k o e = if is_eq (key_cmp (entry_key e) k) then Some (int_wrap w64 (unwrap_or o (pos 0) +ℤ e.shares)) else o

-- with both sides
abbrev pub with_due : Key → Option ℤ → Due → Option ℤ
with_due k o d = fold (with_side k) o (trade_entries (pend_of d.trade))

-- the shares of trades that settle later at each place that one names
abbrev pub AreLater : List Due → Later → Type 0
AreLater ds l = (k : Key) → get key_cmp l.shares k ≡ fold (with_due k) None ds

-- ---- rows

-- what is due at a place, in the state after a close, by the shares of trades that settle later
abbrev pub projected : State → Later → Key → Projected
projected S l k =
    let h = standing S k in
    record {
      issue = k.issue;
      closing = h.opening;
      booked = h.now -ℤ h.opening;
      due = h.now;
      after = int_wrap w64 (h.opening +ℤ unwrap_or (get key_cmp l.shares k) (pos 0));
    }

-- the same, with the account
abbrev pub due_at : State → Later → Key → DueAt
due_at S l k = record { account = k.account; projected = projected S l k }

-- whether nothing is due, and nothing was
abbrev pub is_idle : Projected → Bool
is_idle p = int_eq p.closing (pos 0) && int_eq p.due (pos 0) && int_eq p.after (pos 0)

-- what is due of an account in each of the issues, where anything is or was
abbrev pub projected_all : State → Account → Later → List (Cusip × Price) → List Projected
projected_all S a l prices = filter (λ p. not (is_idle p)) (map (λ e. projected S l (place a e.0)) prices)

-- ---- texts

-- the issue, the closing position, what the close booked, what is due on the next day, and after all
abbrev pub projected_text : Projected → List ℕ
projected_text p =
    row_of ROW.now (Piece.Issue p.issue) (Piece.Signed p.closing ∷ Piece.Signed p.booked ∷ Piece.Signed p.due ∷ Piece.Signed p.after ∷ [])

-- the same, with the account
abbrev pub due_at_text : DueAt → List ℕ
due_at_text d =
    let p = d.projected in
    row_of ROW.now (Piece.Issue p.issue)
    (Piece.Number d.account ∷ Piece.Signed p.closing ∷ Piece.Signed p.booked ∷ Piece.Signed p.due ∷ Piece.Signed p.after ∷ [])
