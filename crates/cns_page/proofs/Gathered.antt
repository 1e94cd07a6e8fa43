-- Pages that are kept one by one.
-- For `keep_each` of folder.rt.
use Rattle.cns_page.proofs.Common.{◌≡◌, ◌∙◌, sym, ap, List, ◌∷◌, ℕ, ◌+◌, Option, Some, Account, ◌<◌, subst, drop, get_or, length, drop_more, KeptPages, KeepsOwn, and_kept, IsOwnPage}
use Rattle.cns_page.specs.declared.closed.ClosedDay.{ClosedDay}

-- the page of the account at a place, and those of the accounts after it
pub keeps_next : (d : ClosedDay) (accounts : List Account) (i : ℕ) (a : Account) (text : List ℕ) (old mid new : Option KeptPages)
    → i < length accounts → a ≡ get_or accounts i a → IsOwnPage d a text → mid ≡ and_kept old (record { date = d.close.date; account = Some a }) text
    → KeepsOwn d (drop (i + 1) accounts) mid new → KeepsOwn d (drop i accounts) old new
keeps_next d accounts i a text old mid new lt at own is rest =
    subst (λ some. KeepsOwn d some old new) (sym (drop_more accounts i a lt ∙ ap (λ x. x ∷ drop (i + 1) accounts) (sym at))) (text, own, rw is at rest)
