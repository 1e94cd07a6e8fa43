-- What a tally says of the workers, worker by worker.
-- For `tally_line`, `amount` and `counted_of` of tally.rt.
use Rattle.cns_program.proofs.Common.{◌≡◌, ℕ, zero, suc, false, ◌+◌, ◌-◌, ◌<◌, arith, codes, List, [], ◌∷◌, ◌++◌, map, length, get_or, add-one, refl, sym, ap, ◌∙◌, decimal, slice_index, IsUtf8, count, day, journal_of, map-append, items_of, view, compact_text, has_float, items_have_float, Logged, empty_logged, counts_to, lines_to, total_text, whole, workers_of, tally_of}
use Rattle.std.proofs.lemmas.List.{get_or_default}
use Rattle.std.proofs.lemmas.Fmt.{IsAscii-decimal_wide}
use Rattle.std.proofs.lemmas.Str.{IsAscii-append, IsUtf8-from_ascii}
use Rattle.serde_json.specs.Data.{array, member, no_members, object, string}
use Rattle.serde_json.specs.declared.value.Value.{Value}
use Rattle.cns_book.specs.Log.{Log, state_of}

-- one worker's count more
pub counts_more : (b : Log) (n w : ℕ) (vs : List Value) (v : Value) → w ≡ n + 1 → map view vs ≡ map whole (counts_to b n) → view v ≡ whole (count b.history w) → map view (vs ++ v ∷ []) ≡ map whole (counts_to b (n + 1))
counts_more b n w vs v at before is = rw (map-append view vs (v ∷ []), before, is, at, add-one) (sym (map-append whole (counts_to b n) (count b.history (suc n) ∷ [])))

-- one worker's invalid records more
pub lines_more : (logs : List Logged) (n was more : ℕ) (l : Logged) → n < length logs → l ≡ get_or logs n l → was ≡ lines_to logs n → more ≡ l.lines → was + more ≡ lines_to logs (n + 1)
lines_more logs n was more l inside is before lines = grind (arith, is, get_or_default logs n l empty_logged inside)

-- each byte of the text is ASCII
digits_ascii : (i : ℕ) → slice_index (46 ∷ 48 ∷ 48 ∷ []) i < 128
digits_ascii zero = omega arith
digits_ascii (suc zero) = omega arith
digits_ascii (suc (suc zero)) = omega arith
digits_ascii (suc (suc (suc i))) = omega arith

-- the text of no cents is text
pub total_is_text : IsUtf8 total_text
total_is_text = IsUtf8-from_ascii total_text (IsAscii-append (decimal 0) (46 ∷ 48 ∷ 48 ∷ []) (IsAscii-decimal_wide 0 (omega arith)) digits_ascii)

-- counts have no float
counts_whole : (ns : List ℕ) → items_have_float (items_of (map whole ns)) ≡ false
counts_whole [] = refl
counts_whole (n ∷ ns) = counts_whole ns

-- a tally has no float
pub tally_whole : (b : Log) (logs : List Logged) → has_float (tally_of b logs) ≡ false
unfolding tally_of
tally_whole b logs = rw (counts_whole (counts_to b (workers_of logs))) refl

-- data with the parts of a tally is the tally
pub tally_is : (b : Log) (logs : List Logged) (v : Value) (closes commands lines : ℕ) (counts : List Value) (dividends marks : List ℕ)
    → view v ≡ object (member (codes "closes") (whole closes) (member (codes "commands") (whole commands) (member (codes "counts") (array (items_of (map view counts)))
    (member (codes "dividends") (string dividends) (member (codes "lines") (whole lines) (member (codes "marks") (string marks) no_members))))))
    → closes ≡ day (journal_of (state_of b)) - 1 → commands ≡ length b.history → map view counts ≡ map whole (counts_to b (workers_of logs))
    → dividends ≡ total_text → lines ≡ lines_to logs (workers_of logs) → marks ≡ total_text → view v ≡ tally_of b logs
unfolding tally_of
tally_is b logs v closes commands lines counts dividends marks e a b1 c d f g = e ∙ rw (a, b1, c, d, f, g) refl

-- the text of the tally
pub tally_told : (b : Log) (logs : List Logged) (v : Value) (text : List ℕ) → view v ≡ tally_of b logs → (has_float (view v) ≡ false → text ≡ compact_text (view v)) → text ≡ compact_text (tally_of b logs)
tally_told b logs v text is told = told (rw is (tally_whole b logs)) ∙ ap compact_text is
