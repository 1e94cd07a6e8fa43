-- The members, as a list of marks by account.
use Rattle.std.specs.Prelude.{ℕ, Bool, false, List, slice_index_or}

-- whether the account is a member's; an account past the last mark is none
abbrev pub has_member : List Bool → ℕ → Bool
has_member members m = slice_index_or members m false
