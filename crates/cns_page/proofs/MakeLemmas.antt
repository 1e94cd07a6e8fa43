-- A page that was made, whatever the input is.
-- For `make_of` of entry.rt.
use Rattle.cns_page.proofs.Common.{◌≡◌, ℕ, List, Option, Some, None, Result, Ok, Err, IfSome, OnOk, subst}
use Rattle.cns_page.specs.Asked.{HasPage}
use Rattle.cns_asked.specs.declared.asked.Asked.{Asked}

-- of all that a reader gave, where that is known
pub made_of : {T E : Type 0} (a : Asked) (given : Option (List ℕ)) (input : List ℕ) (old new : Option (List ℕ)) (r : Result T E)
    → IfSome given (λ bytes. input ≡ bytes) → OnOk r (HasPage a input old new) → OnOk r (IfSome given (λ bytes. HasPage a bytes old new))
made_of a (Some bytes) input old new (Ok x) is page = subst (λ i. HasPage a i old new) is page
made_of a None input old new (Ok x) is page = tt
made_of a given input old new (Err e) is page = tt
