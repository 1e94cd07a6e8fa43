-- Text of a stranger in a page.
use Rattle.std.specs.Prelude.{ℕ, Bool, ◌==◌, ◌&&◌, ◌||◌, not, nat_lt, if◌then◌else◌, List, [], ◌∷◌, codes}
use Rattle.std.specs.List.{flat_map}

-- whether a byte is one of a control character but for line ends, which a page may not have
abbrev pub is_control : ℕ → Bool
is_control b = b == 127 || (nat_lt b 32 && not (b == 10) && not (b == 13))

-- a byte as a page has it: a character reference where it could be taken for markup or is a control character
abbrev pub escaped_byte : ℕ → List ℕ
escaped_byte b =
    if b == 38 then codes "&amp;"
    else if b == 60 then codes "&lt;"
    else if b == 62 then codes "&gt;"
    else if b == 34 then codes "&quot;"
    else if b == 39 then codes "&#39;"
    else if is_control b then codes "&#xFFFD;"
    else b ∷ []

-- bytes of a text as a page has them
abbrev pub escaped : List ℕ → List ℕ
escaped bytes = flat_map escaped_byte bytes

-- whether a byte can neither begin nor end markup or the value of an attribute
abbrev pub is_plain : ℕ → Bool
is_plain b = not (b == 60) && not (b == 62) && not (b == 34) && not (b == 39)
