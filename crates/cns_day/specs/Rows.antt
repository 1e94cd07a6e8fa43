-- The texts of the rows of the other tables.
use Rattle.std.specs.Prelude.{ℕ, ◌+◌, ◌-◌, ◌^◌, min, pos, List, [], ◌∷◌}
use Rattle.cns_day.specs.Common.{decimal, day_text, escaped, amount_text, count_text, signed_text, piece_text, cells, Figures, Numbered, Owing, Due, Aged, ROW, Piece}

-- a short: the issue, the member, its age, opening, closing
abbrev pub short_text : Aged → List ℕ
short_text s =
    cells ROW.now (escaped s.row.issue) (decimal s.row.account ∷ decimal s.age ∷ signed_text s.row.opening ∷ signed_text s.row.closing ∷ [])

-- a liable member: the issue, the day, the member, age, short and what is left
abbrev pub owing_text : Owing → List ℕ
owing_text o =
    cells ROW.now (escaped o.issue)
    (decimal o.day ∷ decimal o.liable.member ∷ decimal o.liable.age ∷ count_text o.liable.closing ∷ count_text o.liable.left ∷ [])

-- a notice: the issue, its number, its member, its shares, its day, what remains, and the second day after its own
abbrev pub notice_row : Numbered → List ℕ
notice_row n =
    cells ROW.now (escaped n.notice.issue)
    (decimal n.number ∷ decimal n.notice.member ∷ count_text n.notice.shares ∷ decimal n.notice.given ∷ count_text n.notice.remaining
    ∷ decimal (n.notice.given + 2) ∷ [])

-- a trade: its date, reference, buyer, seller, issue, shares, money, and whether it was booked into the next day
abbrev pub due_text : Due → List ℕ
due_text d =
    cells ROW.now (day_text d.trade.date)
    (decimal d.trade.reference ∷ decimal d.trade.buyer ∷ decimal d.trade.seller ∷ escaped d.trade.issue ∷ count_text d.trade.shares
    ∷ amount_text (pos d.trade.money) ∷ piece_text (Piece.Booked d.is_booked) ∷ [])

-- a closed day: its date, its number, the sum of the amounts of its marks, the count of shorts
abbrev pub figures_text : Figures → List ℕ
figures_text f = cells ROW.now (day_text f.date) (decimal f.day ∷ amount_text (pos (min f.marks (2 ^ 127 - 1))) ∷ count_text f.shorts ∷ [])
