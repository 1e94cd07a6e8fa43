-- One text after another, written to one writer.
use Rattle.cns_units.proofs.Common.{◌≡◌, ℕ, ◌+◌, ◌-◌, ◌<◌, ◌≤◌, List, [], ◌++◌, Option, Result, sym, ap, ◌∙◌, append_assoc, append-nil, arith, length, length-append, take, drop, take-append-drop, length-drop, Appends, Keeps, Appends-trans, AppendsFront, Writes}
use Rattle.std.proofs.Math.Seq.{take-add, take-length}

pub front_longer : (old new : Option (List ℕ)) (a b : List ℕ) → AppendsFront old new a → AppendsFront old new (a ++ b)
front_longer old new a b h1 = grind (arith, append_assoc, length-append)

pub front_later : (old mid new : Option (List ℕ)) (a b : List ℕ) → Appends old mid a → AppendsFront mid new b → AppendsFront old new (a ++ b)
front_later old mid new a b first w = grind (arith, append_assoc, Appends-trans old mid new a w.front first)

-- a text that was written, and then what the last call did
pub writes_then : {T E : Type 0} (old mid new : Option (List ℕ)) (a b : List ℕ) (r : Result T E) → Appends old mid a → Writes mid new b r → Writes old new (a ++ b) r
writes_then old mid new a b r first last = grind (arith, Appends-trans old mid new a b first, front_later old mid new a b first, last)

-- the first bytes of a text, which a writer took
pub appends_front : (old new : Option (List ℕ)) (n : ℕ) (text : List ℕ) → n < length text → Appends old new (take n text) → AppendsFront old new text
appends_front old new n text lt h = grind (arith, take-append-drop n text, length-drop n text)

-- the part of the text from a place on
rest_is : (bs : List ℕ) (at : ℕ) → take (length bs - at) (drop at bs) ≡ drop at bs
rest_is bs at = ap (λ k. take k (drop at bs)) (sym (length-drop at bs)) ∙ take-length (drop at bs)

-- one more call of `write`
pub took_more : (old mid new : Option (List ℕ)) (bs : List ℕ) (at n : ℕ) → at ≤ length bs → n ≤ length (take (length bs - at) (drop at bs))
    → Appends old mid (take at bs) → Appends mid new (take n (take (length bs - at) (drop at bs))) → (at + n ≤ length bs) × Appends old new (take (at + n) bs)
took_more old mid new bs at n le bound a b = grind (arith, rest_is bs at, length-drop at bs, take-add at n bs, Appends-trans old mid new (take at bs) (take n (drop at bs)))

pub took_none : (old mid new : Option (List ℕ)) (bs xs : List ℕ) (at n : ℕ) → at < length bs → n ≡ 0 → Appends old mid (take at bs) → Appends mid new (take n xs) → AppendsFront old new bs
took_none old mid new bs xs at n lt zero a b = grind (arith, append-nil, appends_front old new at bs, Appends-trans old mid new (take at bs) [])

pub took_failed : (old mid new : Option (List ℕ)) (bs : List ℕ) (at : ℕ) → at < length bs → Appends old mid (take at bs) → Keeps mid new → AppendsFront old new bs
took_failed old mid new bs at lt a b = grind (arith, appends_front old new at bs)
