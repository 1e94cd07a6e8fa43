-- Fields of digits.
use Rattle.std.specs.Prelude.{ℕ, Bool, ◌&&◌, nat_lt, min, length, if◌then◌else◌, List, Result, Ok, Err}
use Rattle.cns_feed.specs.Common.{UnitFault, all_ascii_digits, digits_value, within, LineFault}

-- one or more digits
abbrev pub is_number : List ℕ → Bool
is_number bytes = nat_lt 0 (length bytes) && all_ascii_digits bytes

-- the number that digits of any length stand for, or the cap where it is greater
abbrev pub capped_number : ℕ → List ℕ → Result ℕ LineFault
capped_number cap bytes = if is_number bytes then Ok (min (digits_value 10 bytes) cap) else Err LineFault.Number

-- a unit that a number of a field is to be: a number that is none is out of range
abbrev pub in_range : {A : Type 0} → Result A UnitFault → Result A LineFault
in_range (Ok x) = Ok x
in_range (Err e) = Err LineFault.Range

-- the number that digits of any length stand for, from the least to the most
abbrev pub number_in : ℕ → ℕ → List ℕ → Result ℕ LineFault
number_in least most bytes = if is_number bytes then in_range (within least most (digits_value 10 bytes)) else Err LineFault.Number
