use Rattle.cns_account.proofs.AddingUp.{moves_add_up}
use Rattle.cns_account.proofs.laws.moves_add_up.Goals as goal

pub returns : goal.returns
returns c = moves_add_up
