-- A legal history has the replies of the machine to its commands, one after another.
use Rattle.cns_terms.proofs.Common.{◌≡◌, refl, List, [], ◌∷◌, ◌++◌, arith, Command, Day, IsLegal, State, after, answer, next, opened, commands_of, replies_of, state, replies}
use Rattle.cns_terms.specs.declared.history.Taken.{Taken}

after_one : (S : State) (cmds : List Command) (cmd : Command) → after S (cmds ++ cmd ∷ []) ≡ next (after S cmds) cmd
after_one S [] cmd = refl
after_one S (c ∷ cmds) cmd = after_one (next S c) cmds cmd

replies_one : (S : State) (cmds : List Command) (cmd : Command) → replies S (cmds ++ cmd ∷ []) ≡ replies S cmds ++ answer (after S cmds) cmd ∷ []
replies_one S [] cmd = refl
replies_one S (c ∷ cmds) cmd = cc (replies_one (next S c) cmds cmd)

-- the state after a history is that after its commands
pub state_after : (opening : Day) (H : List Taken) → state opening H ≡ after (opened opening) (commands_of H)
state_after opening [] = refl
state_after opening (t ∷ H) = cc (state_after opening H, after_one (opened opening) (commands_of H) t.command)

-- the replies of a legal history are the machine's to its commands
pub legal_replies : (opening : Day) (H : List Taken) → IsLegal opening H → replies_of H ≡ replies (opened opening) (commands_of H)
legal_replies opening [] l = refl
legal_replies opening (t ∷ H) l = grind (arith, state_after, replies_one, legal_replies opening H l.2)
