-- What a line asks for.
use Rattle.std.specs.Prelude.{◌≡◌, ◌≤◌, ℕ, ◌&&◌, nat_le, if◌then◌else◌, List, length, map, Option, Some, None, option_and_then, option_map, codes, vec_len, ⊤}
use Rattle.cns_program.specs.Common.{Day, all_ascii_digits, digits_value, Row, Text, all_of, first_of, date_in, Asked}
use Rattle.std.specs.Str.{bytes_eq}
use Rattle.cns_program.specs.CommandLine.{found_by}

-- a run has 1 to 64 files, and statements are made by 1 to 64 workers
abbrev pub HasWorkers : Asked → Type 0
HasWorkers (Asked.Replay opening) = ⊤
HasWorkers (Asked.Run opening files) = (1 ≤ vec_len files) × (vec_len files ≤ 64)
HasWorkers (Asked.Statements opening day workers) = (1 ≤ workers) × (workers ≤ 64)

-- a replay that opens on a date; a run that opens on a date, of files by their names; the statements of the second date by
-- a book that opens on the first, made by so many workers
pub data Question : Type 0 where
  replay : Day → Question
  run : Day → List Text → Question
  statements : Day → Day → ℕ → Question

-- the same of what the program was asked
abbrev pub question_of : Asked → Question
question_of (Asked.Replay opening) = replay opening
question_of (Asked.Run opening files) = run opening (map (λ f. f.now) files.items)
question_of (Asked.Statements opening day workers) = statements opening day workers

-- digits alone, for a number from 1 to 64
abbrev pub workers_read : Text → Option ℕ
workers_read t =
    if all_ascii_digits t && (nat_le 1 (digits_value 10 t) && nat_le (digits_value 10 t) 64) then Some (digits_value 10 t) else None

-- how many workers are to be started
abbrev pub workers_in : List Row → Option ℕ
workers_in rows = option_and_then workers_read (first_of (codes "workers") rows)

-- the names of the files: at least one, and no more than 64
abbrev pub files_in : List Row → Option (List Text)
files_in rows =
    option_and_then (λ names. if nat_le 1 (length names) && nat_le (length names) 64 then Some names else None) (all_of (codes "files") rows)

abbrev pub replay_in : List Row → Option Question
replay_in rows = option_map replay (date_in rows (codes "open"))

abbrev pub run_in : List Row → Option Question
run_in rows = option_and_then (λ opening. option_map (run opening) (files_in rows)) (date_in rows (codes "open"))

abbrev pub statements_in : List Row → Option Question
statements_in rows = option_and_then
    (λ opening. option_and_then (λ day. option_map (statements opening day) (workers_in rows)) (date_in rows (codes "day")))
    (date_in rows (codes "open"))

-- what a subcommand asks for, by what was found for its arguments
abbrev pub question_in : Text × List Row → Option Question
question_in p =
    if bytes_eq p.0 (codes "replay") then replay_in p.1
    else if bytes_eq p.0 (codes "run") then run_in p.1
    else if bytes_eq p.0 (codes "statements") then statements_in p.1
    else None

-- what the words of a line ask for; None where the line is refused
abbrev pub question : List Text → Option Question
question words = option_and_then question_in (found_by words)

-- this is what the words ask for
abbrev pub Asks : List Text → Option Asked → Type 0
Asks words a = option_map question_of a ≡ question words
