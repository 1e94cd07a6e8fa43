-- What the workers of a packing promise.
use Rattle.std.specs.Prelude.{◌≡◌, List, [], ◌∷◌, map, Vec, ⊤, flat_map}
use Rattle.cns_terms.specs.Common.{Account, DaySheet, PromisedHandle}
use Rattle.std.specs.declared.alloc.Global.{Global}
use Rattle.cns_statements.specs.Packs.{statement_on}
use Rattle.cns_statements.specs.declared.contents.Statement.{Statement}
use Rattle.cns_statements.specs.declared.fault.PackFault.{PackFault}
use Rattle.cns_statements.specs.declared.workers.Makes.{Makes}

-- a fault of a packing that was begun
abbrev pub IsLate : PackFault → Type 0
IsLate PackFault.Workers = ⊥
IsLate PackFault.Spawn = ⊤
IsLate PackFault.NoMemory = ⊤

-- one thread for each part of the accounts, in order, on the sheet
abbrev pub AllAre : {T : Type 0} → DaySheet → List (Vec Account Global) → List (PromisedHandle T Makes) → Type 0
AllAre s [] [] = ⊤
AllAre s (p ∷ ps) (h ∷ hs) = (h.promise.sheet.value ≡ s) × (h.promise.accounts.value ≡ p) × AllAre s ps hs
AllAre s [] (h ∷ hs) = ⊥
AllAre s (p ∷ ps) [] = ⊥

-- the statements that one thread promised
abbrev pub told_by : {T : Type 0} → PromisedHandle T Makes → List (Statement Global)
told_by h = map (statement_on h.promise.sheet.value) h.promise.accounts.value.items

-- the statements that threads promised, in order
abbrev pub told : {T : Type 0} → List (PromisedHandle T Makes) → List (Statement Global)
told hs = flat_map told_by hs
