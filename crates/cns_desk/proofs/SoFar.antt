-- One record more.
-- For `work` of worker.rt.
use Rattle.cns_desk.proofs.Common.{◌≡◌, ◌∙◌, sym, ap, refl, ℕ, ◌+◌, Bool, List, [], ◌∷◌, ◌++◌, Some, None, Option, append_assoc, length, length-append, IfSome, arith, Told, Logged, Adds, Logs, Steps, commands_in, lines_in, Command}
use Rattle.std.proofs.lemmas.List.{append-nil, map-append}
use Rattle.cns_terms.proofs.Everywhere.{each_append}

-- a worker's log so far: that of what its source gave, which now tells what is left
pub record SoFar (t : Told) (now : Option Told) (log : Logged) (turns : ℕ) : Type 0 where
  pub given : List (Option Command)
  pub rest : List (Option Command)
  pub split : t.items ≡ given ++ rest
  pub tells : now ≡ Some (record { items = rest; end = t.end })
  pub logs : Logs given log
  pub long : length given ≡ turns

-- the commands of one record more
commands_more : (given : List (Option Command)) (x : Option Command) → commands_in (given ++ x ∷ []) ≡ commands_in given ++ commands_in (x ∷ [])
commands_more [] x = refl
commands_more (o ∷ given) x = grind (arith, commands_more given x)

-- and its invalid records
lines_more : (given : List (Option Command)) (x : Option Command) → lines_in (given ++ x ∷ []) ≡ lines_in given + lines_in (x ∷ [])
lines_more [] x = grind arith
lines_more (o ∷ given) x = grind (arith, lines_more given x)

-- the log of one record more
logs_more : (given : List (Option Command)) (old new : Logged) (x : Option Command) → Logs given old → Adds old new x → Logs (given ++ x ∷ []) new
logs_more given old new x l adds = grind (arith, commands_more, lines_more, append-nil, map-append, each_append)

-- one record more of a source that tells
step_more : (fails : Bool) (t : Told) (now new : Option Told) (old log : Logged) (n : ℕ) → SoFar t now old n → IfSome now (λ u. Steps fails u None new old log) → SoFar t new log (n + 1)
step_more fails t now new old log n s step =
    let told = rw s.tells at step in
    let x = told.0 in let rest = told.1.0 in
    record {
      given = s.given ++ x ∷ [];
      rest = rest;
      split = s.split ∙ ap (λ ys. s.given ++ ys) told.1.1 ∙ sym (append_assoc s.given (x ∷ []) rest);
      tells = told.1.2;
      logs = logs_more s.given old log x s.logs told.2;
      long = length-append s.given (x ∷ []) ∙ ap (λ k. k + 1) s.long;
    }

-- one record more of any source
pub more : (fails : Bool) (o now new : Option Told) (old log : Logged) (n : ℕ) → IfSome o (λ t. SoFar t now old n) → IfSome now (λ u. Steps fails u None new old log) → IfSome o (λ t. SoFar t new log (n + 1))
more fails o now new old log n s step = grind (arith, step_more)
