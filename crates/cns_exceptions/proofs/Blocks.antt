-- What blocks hold of the bytes of a reader.
-- For `Input::read` of input.rt.
use Rattle.std.proofs.Common.{◌≡◌, ℕ, List, [], ◌∷◌, Option, IfSome, length, arith, append-nil}
use Rattle.std.specs.Io.KnownBytes.{Consumes, IsAtEnd}

-- no block is left
pub all_read : (a b c : Option (List ℕ)) (had last : List ℕ) → Consumes a b had → Consumes b c last → length last ≡ 0 → (last ≡ [] → IsAtEnd c)
    → IfSome a (λ bytes. had ≡ bytes)
all_read a b c had [] read more none end = grind (arith, append-nil)
all_read a b c had (x ∷ last) read more none end = absurd (omega (arith, none))
