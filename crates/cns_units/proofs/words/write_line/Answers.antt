use Rattle.cns_units.proofs.Common.{arith}
use Rattle.std.proofs.lemmas.Result.{err_from_is_err_and}
use Rattle.cns_units.proofs.OutputLemmas.{front_later, front_longer, writes_then}
use Rattle.cns_units.proofs.words.write_line.Goals as goal

pub returns-in_err-write_bytes : goal.returns-in_err-write_bytes
returns-in_err-write_bytes g c = grind (arith, err_from_is_err_and, front_longer)

pub returns-in_err-write_words : goal.returns-in_err-write_words
returns-in_err-write_words g c = grind (arith, err_from_is_err_and, front_later, front_longer)

pub returns : goal.returns
returns g c = grind (arith, writes_then)
