-- The accepted trades that have the references of refused ones.
use Rattle.std.specs.Prelude.{ℕ, ◌+◌, ◌-◌, ◌^◌, Bool, false, is_none, ◌==◌, ◌&&◌, if◌then◌else◌, List, [], ◌∷◌, min, nat_lt, Option, Some}
use Rattle.cns_exceptions.specs.Common.{fold, option_map_or, Finding, Trade, Taken}
use Rattle.cns_history.specs.Entries.{trade_of}
use Rattle.cns_exceptions.specs.declared.finding.Accepted.{Accepted}

-- the number of the record whose command has a place in the history, by the numbers of the invalid records, in order: each that stands
-- before it makes it one higher
abbrev pub record_at : List ℕ → ℕ → ℕ
record_at invalid place = fold (λ n i. if nat_lt n i then n else min (n + 1) (2 ^ 64 - 1)) place invalid

-- whether a reference is the one
abbrev pub is_reference : ℕ → Option ℕ → Bool
is_reference r o = option_map_or (λ q. q == r) o false

-- what was found for a reference, if it is one, or else the accepted trade at a place of the history, where it has it
abbrev pub or_trade : List ℕ → ℕ → Trade → Option ℕ → Option Accepted → Option Accepted
or_trade invalid n t r had =
    if is_none had && is_reference t.reference r then Some (record { number = record_at invalid n; trade = t }) else had

-- the same of an entry, where it is an accepted trade
abbrev pub or_entry : List ℕ → ℕ → Taken → Option ℕ → Option Accepted → Option Accepted
or_entry invalid n t r had = option_map_or (λ x. or_trade invalid n x r had) (trade_of t) had

-- the same of entries in order, after so many others
unfoldable pub or_first : List ℕ → ℕ → List Taken → Option ℕ → Option Accepted → Option Accepted
or_first invalid n [] r had = had
or_first invalid n (t ∷ ts) r had = or_first invalid (n + 1) ts r (or_entry invalid (n + 1) t r had)

-- a finding with it: of a trade, of an entry, and of all entries
abbrev pub with_trade : List ℕ → ℕ → Trade → Finding → Finding
with_trade invalid n t f = record f { accepted = or_trade invalid n t f.named.reference f.accepted }

abbrev pub with_entry : List ℕ → ℕ → Taken → Finding → Finding
with_entry invalid n t f = record f { accepted = or_entry invalid n t f.named.reference f.accepted }

abbrev pub with_found : List ℕ → List Taken → Finding → Finding
with_found invalid ts f = record f { accepted = or_first invalid 0 ts f.named.reference f.accepted }
