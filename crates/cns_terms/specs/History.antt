-- Histories: the commands that were taken, with their replies, the newest first.
use Rattle.std.specs.Prelude.{ℕ, ◌≡◌, ◌+◌, ◌==◌, List, [], ◌∷◌, ◌++◌, ⊤, count_by}
use Rattle.cns_terms.specs.Types.{Day, Activity, Command, Reply}
use Rattle.cns_terms.specs.declared.history.Taken.{Taken}
use Rattle.cns_terms.specs.declared.worker.Worker.{Worker}
use Rattle.cns_terms.specs.Machine.{State, accepted_after, answer}

-- the accepted activities of a history
abbrev pub accepted : Day → List Taken → List Activity
accepted opening [] = []
accepted opening (t ∷ H) = accepted_after opening (accepted opening H) t.command

-- the state after a history
abbrev pub state : Day → List Taken → State
state opening H = record { opening = opening; accepted = accepted opening H }

-- the commands of a history, the oldest first
abbrev pub commands_of : List Taken → List Command
commands_of [] = []
commands_of (t ∷ H) = commands_of H ++ t.command ∷ []

-- the replies of a history, the oldest first
abbrev pub replies_of : List Taken → List Reply
replies_of [] = []
replies_of (t ∷ H) = replies_of H ++ t.reply ∷ []

-- how many commands of the worker stand in the history
abbrev pub count : List Taken → Worker → ℕ
count H w = count_by (λ t. t.worker == w) H

-- each reply is the machine's, and each worker's commands are numbered 1, 2, 3 and so on
abbrev pub IsLegal : Day → List Taken → Type 0
IsLegal opening [] = ⊤
IsLegal opening (t ∷ H) = (t.reply ≡ answer (state opening H) t.command) × (t.seq ≡ (count H t.worker + 1)) × IsLegal opening H
