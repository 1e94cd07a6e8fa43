-- Control totals, and exceptions by reason.
use Rattle.std.specs.Prelude.{ℕ, zero, suc, ◌-◌, ◌^◌, ◌==◌, if◌then◌else◌, List, [], ◌∷◌, ◌++◌, count_by, length, min}
use Rattle.cns_exceptions.specs.Common.{cells, count_text, Counted, refusal_number, Outcome, ROW, Span, Survey}

-- ---- control totals

-- how many records there are in a row of control totals, and how many of them are exceptions
abbrev pub counts : Span → ℕ × ℕ
counts t = (t.records, t.exceptions)

-- how many records there are, and how many of them are exceptions: before the day, of the day, and of all
abbrev pub spans_shown : Survey → List (ℕ × ℕ)
spans_shown s =
    (s.from, s.exceptions - length s.reasons.items) ∷ (s.records - s.from, length s.reasons.items) ∷ (s.records, s.exceptions) ∷ []

-- ---- exceptions by reason

-- a kind of exceptions, by its number, and how many there are
abbrev pub counted : Counted → ℕ × ℕ
counted c = (c.number, c.count)

-- the number of a refusal; 0 for an invalid record
abbrev pub number : Outcome → ℕ
number (Outcome.AtFault f) = 0
number (Outcome.Refused r) = refusal_number r

-- how many exceptions have the number of a kind, as far as the count goes
abbrev pub count_at : ℕ → List Outcome → ℕ
count_at n os = min (count_by (λ o. number o == n) os) (2 ^ 64 - 1)

-- the same as a row, where there is any
abbrev pub count_shown : ℕ → List Outcome → List (ℕ × ℕ)
count_shown n os = if count_at n os == 0 then [] else (n, count_at n os) ∷ []

-- those of the kinds below a number
unfoldable pub counts_below : ℕ → List Outcome → List (ℕ × ℕ)
counts_below zero os = []
counts_below (suc n) os = counts_below n os ++ count_shown n os

-- those of invalid records and of each refusal
abbrev pub counts_shown : List Outcome → List (ℕ × ℕ)
counts_shown os = counts_below 21 os

-- ---- rows

-- some records: which ones, how many, and how many of them are exceptions
abbrev pub span_text : Span → List ℕ
span_text s = cells ROW.now s.name.now (count_text s.records ∷ count_text s.exceptions ∷ [])

-- exceptions of one kind: its name, and how many there are
abbrev pub counted_text : Counted → List ℕ
counted_text c = cells ROW.now c.name.now (count_text c.count ∷ [])
