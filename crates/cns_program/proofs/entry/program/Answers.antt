use Rattle.cns_program.proofs.EndLemmas.{told}
use Rattle.cns_program.proofs.entry.program.Goals as goal

pub returns-clause-told : goal.returns-clause-told
returns-clause-told g c is = (c.run_words.result.told, c.run_words.ensures.told is)

pub returns-clause-usage : goal.returns-clause-usage
returns-clause-usage g c is = told _ _ _ c.run_words.result.told (c.run_words.ensures.usage is)
