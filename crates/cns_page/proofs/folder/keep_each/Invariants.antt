use Rattle.cns_page.proofs.Common.{Option, drop, KeptPages, KeepsOwn}
use Rattle.cns_page.proofs.folder.keep_each.Given as goal

abbrev pub invariant-loop-account : goal.invariant-loop-account
invariant-loop-account g l = (new : Option KeptPages)
    → KeepsOwn l.day (drop l.account-index l.accounts) (g.K.Keeps.kept l.keeper) new → KeepsOwn l.day l.accounts (g.K.Keeps.kept l.fn.keeper) new
