-- The texts of words, and of lines of them.
use Rattle.std.specs.Prelude.{ℕ, ◌∷◌, ◌++◌, [], List}
use Rattle.std.specs.Fmt.{decimal, signed_decimal}
use Rattle.std.specs.List.{flat_map}
use Rattle.cns_units.specs.Cents.{cents_text}
use Rattle.cns_units.specs.Day.{day_text}
use Rattle.cns_units.specs.declared.words.Word.{Word}

-- the text of a word: plain decimal, cents with a point, dates as `YYYY-MM-DD`
abbrev pub word_text : Word → List ℕ
word_text (Word.Text t) = t.now
word_text (Word.Number n) = decimal n
word_text (Word.Signed z) = signed_decimal z
word_text (Word.Amount z) = cents_text z
word_text (Word.Date d) = day_text d

-- words, each after a space
abbrev pub words_text : List Word → List ℕ
words_text words = flat_map (λ w. 32 ∷ word_text w) words

-- a first word and words, each after a space, and a line feed
abbrev pub words_line : List ℕ → List Word → List ℕ
words_line first others = first ++ (words_text others ++ 10 ∷ [])

-- the same of the words' texts
abbrev pub text_line : List ℕ → List (List ℕ) → List ℕ
text_line first others = first ++ (flat_map (λ w. 32 ∷ w) others ++ 10 ∷ [])
