use Rattle.cns_units.proofs.Common.{[], arith, ◌∷◌, err_from_is_err_and, word_text}
use Rattle.cns_units.proofs.OutputLemmas.{front_longer, writes_then}
use Rattle.cns_units.proofs.words.write_next.Goals as goal

pub returns-in_err-write_bytes : goal.returns-in_err-write_bytes
returns-in_err-write_bytes g c = grind (arith, err_from_is_err_and c.from_residual.result c.from_residual.ensures.1, front_longer _ _ (32 ∷ []) (word_text c.args.word.now) c.in_err-write_bytes.ensures)

pub returns : goal.returns
returns g c = writes_then _ _ _ (32 ∷ []) (word_text c.args.word.now) _ c.in_ok-write_bytes.ensures c.write_word.ensures
