-- CUSIP: eight characters and a check digit.
use Rattle.std.specs.Prelude.{◌≡◌, ℕ, ◌+◌, ◌-◌, ◌*◌, ◌/◌, ◌%◌, Bool, false, not, ◌&&◌, ◌==◌, nat_le, if◌then◌else◌, List, [], ◌∷◌, length, take, slice_index, Option, Some, None, Result, Ok, Err}
use Rattle.cns_units.specs.declared.fault.UnitFault.{UnitFault}

-- the value of a character
abbrev pub character_value : ℕ → Option ℕ
character_value c =
    if nat_le 48 c && nat_le c 57 then Some (c - 48)
    else if nat_le 65 c && nat_le c 90 then Some (c - 55)
    else if c == 42 then Some 36
    else if c == 64 then Some 37
    else if c == 35 then Some 38
    else None

-- what one value adds: the tens and the units of the value, doubled at every second place
abbrev pub weight : Bool → ℕ → ℕ
weight doubled v = if doubled then v * 2 / 10 + v * 2 % 10 else v / 10 + v % 10

abbrev pub plus : ℕ → Option ℕ → Option ℕ
plus n None = None
plus n (Some m) = Some (n + m)

abbrev pub after_value : Bool → Option ℕ → Option ℕ → Option ℕ
after_value doubled None rest = None
after_value doubled (Some v) rest = plus (weight doubled v) rest

-- the sum over the characters, the first of which is doubled or not; none where one has no value
unfoldable pub sum_of : Bool → List ℕ → Option ℕ
sum_of doubled [] = Some 0
sum_of doubled (c ∷ cs) = after_value doubled (character_value c) (sum_of (not doubled) cs)

abbrev pub is_digit : ℕ → Bool
is_digit c = nat_le 48 c && nat_le c 57

-- what a ninth character is, after a sum of the others, which the check digit makes a multiple of 10
abbrev pub last_fault : Option ℕ → ℕ → Option UnitFault
last_fault None c = Some UnitFault.Character
last_fault (Some sum) c =
    if is_digit c then (if c - 48 == (10 - sum % 10) % 10 then None else Some UnitFault.CheckDigit)
    else Some UnitFault.Character

-- the first fault of a text
abbrev pub cusip_fault : List ℕ → Option UnitFault
cusip_fault bytes =
    if length bytes == 9 then last_fault (sum_of false (take 8 bytes)) (slice_index bytes 8)
    else Some UnitFault.Length

-- a text that is a CUSIP
abbrev pub IsCusip : List ℕ → Type 0
IsCusip bytes = cusip_fault bytes ≡ None

abbrev pub fault_or : List ℕ → Option UnitFault → Result (List ℕ) UnitFault
fault_or bytes None = Ok bytes
fault_or bytes (Some f) = Err f

-- the CUSIP that a text is
abbrev pub cusip_of : List ℕ → Result (List ℕ) UnitFault
cusip_of bytes = fault_or bytes (cusip_fault bytes)
