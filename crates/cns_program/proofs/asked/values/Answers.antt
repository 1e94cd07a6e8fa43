use Rattle.cns_program.proofs.Common.{◌∙◌, found_of}
use Rattle.clap.proofs.WalkLemmas.{raw_values-rows}
use Rattle.cns_program.proofs.asked.values.Goals as goal

pub returns : goal.returns
returns c = c.get_strs.ensures ∙ raw_values-rows (found_of c.args.matches.now) c.args.name.now
