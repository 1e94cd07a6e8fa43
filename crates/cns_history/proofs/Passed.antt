-- The entries of a history, one after another.
-- For `next` of entries.rt.
use Rattle.cns_history.proofs.Common.{◌≡◌, ℕ, ◌+◌, ◌-◌, ◌<◌, ◌≤◌, ◌^◌, List, [], ◌∷◌, None, Some, arith, drop, reverse, slice_get, sym, ◌∙◌, nat_tests}
use Rattle.std.proofs.lemmas.List.{drop_all, drop_more, length-take, get_or-take}
use Rattle.std.proofs.lemmas.Option.{slice_get_within, slice_get_cases, get_or_from_slice_get}
use Rattle.cns_book.specs.Shown.{entry_at}
use Rattle.cns_history.specs.Entries.{looked_at}
use Rattle.cns_terms.specs.declared.history.Taken.{Taken}

there : (H : List Taken) (n : ℕ) → entry_at H (n + 1) ≡ slice_get (reverse H) n
there H n = grind arith

pub entry_next : (H : List Taken) (n : ℕ) (t : Taken) → n < 2 ^ 32 - 2 → entry_at H (n + 1) ≡ Some t → drop n (looked_at H) ≡ t ∷ drop (n + 1) (looked_at H)
entry_next H n t few is =
    let at = sym (there H n) ∙ is in
    grind (arith, drop_more (looked_at H) n t, length-take (2 ^ 32 - 2) (reverse H), get_or-take (2 ^ 32 - 2) (reverse H) n t, slice_get_within (reverse H) n t at, get_or_from_slice_get (reverse H) n t t at)

pub entries_end : (H : List Taken) (n : ℕ) → entry_at H (n + 1) ≡ None → drop n (looked_at H) ≡ []
entries_end H n none =
    let at = sym (there H n) ∙ none in
    drop_all n (looked_at H) (grind (arith, nat_tests, length-take (2 ^ 32 - 2) (reverse H), slice_get_cases (reverse H) n, at))

pub entries_past : (H : List Taken) (n : ℕ) → 2 ^ 32 - 2 ≤ n → drop n (looked_at H) ≡ []
entries_past H n past = drop_all n (looked_at H) (omega (arith, length-take (2 ^ 32 - 2) (reverse H)))
