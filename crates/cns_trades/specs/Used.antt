-- The references of trades.
use Rattle.std.specs.Prelude.{ℕ, ◌/◌, ◌%◌, Bool, ◌==◌, List, unwrap_or, if◌then◌else◌}
use Rattle.cns_terms.specs.Common.{is_eq, lookup, nat_cmp}
use Rattle.std.specs.Int.{bit_at}
use Rattle.cns_terms.specs.declared.pend.Pend.{Pend}

-- the references that were used, by pages of 64 bits: the page that was written last, and the others by their numbers
pub record Used : Type 0 where
  pub page : ℕ
  pub bits : ℕ
  pub others : List (ℕ × ℕ)

-- whether a page has the bit at a place
abbrev pub has_bit : ℕ → ℕ → Bool
has_bit bits k = bit_at bits k == 1

-- the bits of a page, none where it is not there
abbrev pub bits_in : Used → ℕ → ℕ
bits_in u p = if p == u.page then u.bits else unwrap_or (lookup (λ q. is_eq (nat_cmp p q)) u.others) 0

-- whether the number was used
unfoldable pub is_used : Used → ℕ → Bool
is_used u n = has_bit (bits_in u (n / 64)) (n % 64)

-- what is kept of trades: the references that accepted ones used, and those that wait, in the order in which they were taken
pub record Traded : Type 0 where
  pub references : Used
  pub pending : List Pend
