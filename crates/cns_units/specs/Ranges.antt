-- Values that must lie in a range.
use Rattle.std.specs.Prelude.{ℕ, Bool, ◌^◌, ◌&&◌, nat_le, if◌then◌else◌, Result, Ok, Err}
use Rattle.cns_units.specs.declared.fault.UnitFault.{UnitFault}

-- the number, where it lies from the least to the most
abbrev pub within : ℕ → ℕ → ℕ → Result ℕ UnitFault
within least most n = if nat_le least n && nat_le n most then Ok n else Err UnitFault.OutOfRange

-- new shares, and the old ones for which they stand
pub record NewForOld : Type 0 where
  pub new : ℕ
  pub old : ℕ

-- whether a ratio can have so many shares on one of its sides
abbrev pub is_part : ℕ → Bool
is_part n = nat_le 1 n && nat_le n (10 ^ 4)

-- the ratio of two numbers, where both are in range
abbrev pub ratio_of : ℕ → ℕ → Result NewForOld UnitFault
ratio_of new old = if is_part new && is_part old then Ok (record { new = new; old = old }) else Err UnitFault.OutOfRange
