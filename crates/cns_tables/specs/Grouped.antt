-- The texts of figures, with their thousands separated by commas.
use Rattle.std.specs.Prelude.{ℕ, ℤ, ◌+◌, ◌/◌, ◌%◌, ◌==◌, ◌&&◌, nat_lt, if◌then◌else◌, List, [], ◌∷◌, ◌++◌, length, unsigned_abs}
use Rattle.std.specs.Fmt.{decimal, sign_text}
use Rattle.std.specs.Int.{is_negative}

-- a digit that has so many after it: a comma follows where these are 3, 6, 9 ..
abbrev pub digit_text : ℕ → ℕ → List ℕ
digit_text digit after = if nat_lt 0 after && after % 3 == 0 then digit ∷ 44 ∷ [] else digit ∷ []

-- the digits of a whole number
abbrev pub grouped : List ℕ → List ℕ
grouped [] = []
grouped (d ∷ ds) = digit_text d (length ds) ++ grouped ds

-- a whole number
unfoldable pub count_text : ℕ → List ℕ
count_text n = grouped (decimal n)

-- the same after a minus sign, where it is negative
unfoldable pub signed_text : ℤ → List ℕ
signed_text z = sign_text (is_negative z) ++ count_text (unsigned_abs z)

-- cents as dollars, a point and two digits
abbrev pub dollars_text : ℕ → List ℕ
dollars_text n = count_text (n / 100) ++ 46 ∷ (48 + n % 100 / 10) ∷ (48 + n % 10) ∷ []

-- the same after a minus sign, where the amount is negative
unfoldable pub amount_text : ℤ → List ℕ
amount_text z = sign_text (is_negative z) ++ dollars_text (unsigned_abs z)

-- the digit of a number at a place: that of tens, of hundreds and so on
abbrev pub digit_at : ℕ → ℕ → ℕ
digit_at n place = 48 + n / place % 10

-- a point, and the digits of millionths after it
abbrev pub fraction : ℕ → List ℕ
fraction n = 46 ∷ digit_at n 100000 ∷ digit_at n 10000 ∷ digit_at n 1000 ∷ digit_at n 100 ∷ digit_at n 10 ∷ digit_at n 1 ∷ []

-- millionths of a dollar as dollars, a point and six digits
abbrev pub rate_text : ℕ → List ℕ
rate_text n = count_text (n / 1000000) ++ fraction n
