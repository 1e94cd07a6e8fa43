-- Notices by the definitions, as the list has them.
use Rattle.std.specs.Prelude.{ℕ, ◌+◌, ◌&&◌, List, [], ◌∷◌, map, if◌then◌else◌}
use Rattle.cns_terms.specs.Common.{Journal, Notice, is_given, is_live, notices, receipt, shares_executed, stage}
use Rattle.cns_notices.specs.declared.noticed.Noticed.{Noticed}

-- what the member of a notice received while it was live, as a counter has it: of a live notice, all since it was given
abbrev pub received_live : Journal → Notice → ℕ
received_live [] n = 0
received_live (p ∷ J) n = (if is_given J n && is_live (stage J n) then receipt n p.activity else 0) + received_live J n

-- a notice, with what became of it
abbrev pub kept : Journal → Notice → Noticed
kept J n = record { given = n.given; stage = stage J n; received = received_live J n; executed = shares_executed J n }

-- all notices, by number
abbrev pub kept_notices : Journal → List Noticed
kept_notices J = map (kept J) (notices J)
