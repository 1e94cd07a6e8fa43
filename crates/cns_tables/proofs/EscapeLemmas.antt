-- What is escaped has no markup.
-- For `write_escaped` of escape.rt.
use Rattle.cns_tables.proofs.Common.{◌≡◌, ◌∙◌, ℕ, Bool, true, ◌&&◌, List, [], ◌∷◌, refl, list_all, escaped, escaped_byte, is_plain, arith}
use Rattle.std.proofs.lemmas.List.Folds.{list_all-append}

-- one byte
byte_plain : (b : ℕ) → list_all is_plain (escaped_byte b) ≡ true
byte_plain b = grind arith

-- both parts of a text
both : (a b : Bool) → a ≡ true → b ≡ true → (a && b) ≡ true
both a b h k = λ i. h i && k i

-- a text
pub text_plain : (bytes : List ℕ) → list_all is_plain (escaped bytes) ≡ true
text_plain [] = refl
text_plain (b ∷ bs) = list_all-append is_plain (escaped_byte b) (escaped bs) ∙ both _ _ (byte_plain b) (text_plain bs)
