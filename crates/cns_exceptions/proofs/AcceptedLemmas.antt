-- The accepted trade that is found for a reference, entry by entry.
-- For `note_entry` and `note_accepted` of accepted.rt.
use Rattle.cns_exceptions.proofs.Common.{◌≡◌, ◌∙◌, sym, ap, refl, ℕ, ◌+◌, ◌-◌, ◌^◌, ◌≤◌, ◌<◌, List, [], ◌∷◌, ◌++◌, Option, Some, None, take, reverse, map, length, arith, Taken, Trade, Finding, Accepted, entries_end, entry_more, entry_at, looked_at, or_entry, or_first, with_entry, with_found, with_trade}
use Rattle.cns_history.specs.Entries.{trade_of}
use Rattle.std.proofs.lemmas.List.{length-take}
use Rattle.std.proofs.lemmas.Option.{slice_get_within}

-- entries and one more
or_first_more : (ns : List ℕ) (n : ℕ) (ts : List Taken) (t : Taken) (r : Option ℕ) (had : Option Accepted) → or_first ns n (ts ++ t ∷ []) r had ≡ or_entry ns (n + length ts + 1) t r (or_first ns n ts r had)
unfolding or_first
or_first_more ns n [] t r had = ap (λ m. or_entry ns m t r had) (omega arith)
or_first_more ns n (u ∷ ts) t r had =
    let first = or_entry ns (n + 1) u r had in
    or_first_more ns (n + 1) ts t r first ∙ ap (λ m. or_entry ns m t r (or_first ns (n + 1) ts r first)) (omega arith)

-- of no entry
pub none_found : (ns : List ℕ) (fs : List Finding) → map (with_found ns []) fs ≡ fs
unfolding or_first
none_found ns [] = refl
none_found ns (f ∷ fs) = ap (λ gs. f ∷ gs) (none_found ns fs)

-- an entry that is an accepted trade
pub entry_noted : (ns : List ℕ) (n : ℕ) (t : Taken) (x : Trade) (fs : List Finding) → trade_of t ≡ Some x → map (with_trade ns n x) fs ≡ map (with_entry ns n t) fs
entry_noted ns n t x [] is = refl
entry_noted ns n t x (f ∷ fs) is = cc (is, entry_noted ns n t x fs is)

-- one that is no accepted trade
pub no_trade : (ns : List ℕ) (n : ℕ) (t : Taken) (fs : List Finding) → trade_of t ≡ None → fs ≡ map (with_entry ns n t) fs
no_trade ns n t [] is = refl
no_trade ns n t (f ∷ fs) is = cc (is, no_trade ns n t fs is)

module _ (ns : List ℕ) (H : List Taken) (place : ℕ) (le : 1 ≤ place) (t : Taken) (there : entry_at H place ≡ Some t) where
  abbrev before : List Taken
  before = take (place - 1) (reverse H)

  long : 0 + length (take (place - 1) (reverse H)) + 1 ≡ place
  long = let within : place - 1 < length (reverse H) = slice_get_within (reverse H) (place - 1) t (grind (arith, there)) in omega (arith, le, within, length-take (place - 1) (reverse H))

  one_more : (r : Option ℕ) (had : Option Accepted) → or_entry ns place t r (or_first ns 0 before r had) ≡ or_first ns 0 (take (place + 1 - 1) (reverse H)) r had
  one_more r had =
      ap (λ n. or_entry ns n t r (or_first ns 0 before r had)) (sym long) ∙ sym (or_first_more ns 0 before t r had) ∙ ap (λ ts. or_first ns 0 ts r had) (entry_more H place t le there)

  -- one entry more
  pub entry_found : (fs : List Finding) → map (with_entry ns place t) (map (with_found ns before) fs) ≡ map (with_found ns (take (place + 1 - 1) (reverse H))) fs
  entry_found [] = refl
  entry_found (f ∷ fs) = cc (one_more f.named.reference f.accepted, entry_found fs)

-- no entry is left
pub entries_found : (ns : List ℕ) (H : List Taken) (place : ℕ) (fs : List Finding) → 1 ≤ place → place < 2 ^ 32 - 1 → entry_at H place ≡ None
    → map (with_found ns (take (place - 1) (reverse H))) fs ≡ map (with_found ns (looked_at H)) fs
entries_found ns H place fs le lt none = ap (λ ts. map (with_found ns ts) fs) (entries_end H place le lt none)
