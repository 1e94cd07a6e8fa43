-- The foot of a page.
use Rattle.std.specs.Prelude.{◌≡◌, ℕ, List, [], ◌∷◌, ◌++◌, ◌-◌, ◌^◌, Option, None, Some, length, min, string_bytes}
use Rattle.cns_page.specs.Common.{About, decimal, day_text, Day, escaped, Origin, Source, filled}
use Rattle.cns_page.specs.declared.foot.TheConstants.{ACCOUNT, AGAIN, MADE, PLACE, TODAY}
use Rattle.hex.specs.Hex.{encode_lower}
use Rattle.sha2.specs.Sha256.{sha256}

-- what some bytes are: how many, as far as the count goes, and their SHA-256 in hexadecimal digits
pub record IsOrigin (input : List ℕ) (o : Origin) : Type 0 where
  pub bytes : o.bytes ≡ min (length input) (2 ^ 64 - 1)
  pub digest : string_bytes o.digest ≡ encode_lower (sha256 input)

-- what `--day` takes for a closed day, or for the open one
abbrev pub day_word : Option Day → List ℕ
day_word None = TODAY.now
day_word (Some d) = day_text d

-- the options for what a page is about
abbrev pub about_text : About → List ℕ
about_text (About.Account a) = filled ACCOUNT.now (decimal a ∷ [])
about_text (About.Place k) = filled PLACE.now (decimal k.account ∷ escaped k.issue ∷ [])
about_text _ = []

-- what a page was made of, and how many rows its tables have
unfoldable pub made_text : Origin → ℕ → List ℕ
made_text o rows = filled MADE.now (decimal o.bytes ∷ escaped (string_bytes o.digest) ∷ decimal rows ∷ [])

-- the line that makes the page again, and what it was made of
abbrev pub foot_text : Source → Option Day → About → ℕ → List ℕ
foot_text s day about rows =
    filled AGAIN.now (day_text s.opening ∷ day_word day ∷ []) ++ (about_text about ++ made_text s.origin rows)
