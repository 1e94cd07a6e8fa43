-- The texts of the items of a list, written one after another.
use Rattle.cns_units.proofs.Common.{arith, ◌≡◌, ℕ, ◌+◌, ◌<◌, List, ◌∷◌, ◌++◌, Option, get_or, length, drop, add-one, drop-cons, append_assoc, ap, sym, ◌∙◌, Appends, Appends-trans, AppendsFront, flat_map}
use Rattle.cns_units.proofs.OutputLemmas.{front_later, front_longer}

-- one more item's text was written, of those that an iterator has left
pub given_more : {X : Type 0} (old mid new : Option (List ℕ)) (f : X → List ℕ) (text : List ℕ) (left : List X) (x : X) (rest : List X) (done : List ℕ) → left ≡ x ∷ rest
    → text ≡ done ++ flat_map f left → Appends old mid done → Appends mid new (f x) → (more : List ℕ) × (text ≡ more ++ flat_map f rest) × Appends old new more
given_more old mid new f text left x rest done next whole a b =
    (done ++ f x, whole ∙ ap (λ xs. done ++ flat_map f xs) next ∙ sym (append_assoc done (f x) (flat_map f rest)), Appends-trans old mid new done (f x) a b)

-- writing an item's text failed: a prefix of all the texts was written
pub given_failed : {X : Type 0} (old mid new : Option (List ℕ)) (f : X → List ℕ) (text : List ℕ) (left : List X) (x : X) (rest : List X) (done : List ℕ) → left ≡ x ∷ rest
    → text ≡ done ++ flat_map f left → Appends old mid done → AppendsFront mid new (f x) → AppendsFront old new text
given_failed old mid new f text left x rest done next whole a b = grind (arith, front_later old mid new done (f x ++ flat_map f rest), front_longer mid new (f x) (flat_map f rest) b)

-- the same of the items from a place on
pub parts_more : {X : Type 0} (old mid new : Option (List ℕ)) (f : X → List ℕ) (xs : List X) (i : ℕ) (d : X) (done : List ℕ) → i < length xs
    → flat_map f xs ≡ done ++ flat_map f (drop i xs) → Appends old mid done → Appends mid new (f (get_or xs i d))
    → (more : List ℕ) × (flat_map f xs ≡ more ++ flat_map f (drop (i + 1) xs)) × Appends old new more
parts_more old mid new f xs i d done lt whole a b = given_more old mid new f _ _ (get_or xs i d) (drop (i + 1) xs) done (rw add-one (drop-cons xs i d lt)) whole a b

pub parts_failed : {X : Type 0} (old mid new : Option (List ℕ)) (f : X → List ℕ) (xs : List X) (i : ℕ) (d : X) (done : List ℕ) → i < length xs
    → flat_map f xs ≡ done ++ flat_map f (drop i xs) → Appends old mid done → AppendsFront mid new (f (get_or xs i d)) → AppendsFront old new (flat_map f xs)
parts_failed old mid new f xs i d done lt whole a b = given_failed old mid new f _ _ (get_or xs i d) (drop (i + 1) xs) done (rw add-one (drop-cons xs i d lt)) whole a b
