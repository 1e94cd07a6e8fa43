-- The tally of a run, as the program writes it.
use Rattle.std.specs.Prelude.{ℕ, zero, suc, ◌+◌, ◌-◌, min, List, [], ◌∷◌, ◌++◌, length, map, slice_index_or, codes, pos}
use Rattle.cns_program.specs.Common.{cents_text, count, day, journal_of, Log, state_of}
use Rattle.cns_desk.specs.Logged.{Logged, empty_logged}
use Rattle.serde_json.specs.Data.{Data, unsigned, number, string, array, object, no_members, member}
use Rattle.serde_json.specs.View.{items_of}
use Rattle.serde_json.specs.Written.{compact_text}

-- the workers of a run, of which there are at most 64
abbrev pub workers_of : List Logged → ℕ
workers_of logs = min (length logs) 64

-- a number as JSON has it
abbrev pub whole : ℕ → Data
whole n = number (unsigned n)

-- how many commands of each of the workers 1 to n were taken
abbrev pub counts_to : Log → ℕ → List ℕ
counts_to b zero = []
counts_to b (suc n) = counts_to b n ++ count b.history (suc n) ∷ []

-- the invalid records of the workers 1 to n
abbrev pub lines_to : List Logged → ℕ → ℕ
lines_to logs zero = 0
lines_to logs (suc n) = lines_to logs n + (slice_index_or logs n empty_logged).lines

-- the marks of each sheet add up to zero, and so do its dividends; hence those of all sheets do
abbrev pub total_text : List ℕ
total_text = cents_text (pos 0)

-- a tally as data: its members in the order of their names
abbrev pub members_of : ℕ → ℕ → List ℕ → ℕ → Data
members_of closes commands counts lines =
    object (member (codes "closes") (whole closes)
    (member (codes "commands") (whole commands)
    (member (codes "counts") (array (items_of (map whole counts)))
    (member (codes "dividends") (string total_text)
    (member (codes "lines") (whole lines)
    (member (codes "marks") (string total_text) no_members))))))

-- the tally of a book and of logs
unfoldable pub tally_of : Log → List Logged → Data
tally_of b logs =
    members_of (day (journal_of (state_of b)) - 1) (length b.history) (counts_to b (workers_of logs)) (lines_to logs (workers_of logs))

-- the tally without spaces, and a line feed
abbrev pub tally_line : Log → List Logged → List ℕ
tally_line b logs = compact_text (tally_of b logs) ++ 10 ∷ []
