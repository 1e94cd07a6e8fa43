use Rattle.cns_program.proofs.EndLemmas.{fails-flushing}
use Rattle.cns_program.proofs.replaying.replay_input.Goals as goal

pub returns-in-Err-clause-fault : goal.returns-in-Err-clause-fault
returns-in-Err-clause-fault g c =
    fails-flushing c.args.opening (g.I.Read.remaining c.args.input) _ _ _ c.replay_last-played.result c.replay_last-played.ensures.output c.replay_last-played.ensures.fault c.in-Err.ensures.bytes
