use Rattle.cns_units.proofs.Common.{◌∷◌, err_from_is_err_and, word_text}
use Rattle.cns_units.proofs.Parts.{parts_more, parts_failed}
use Rattle.cns_units.specs.declared.words.Word.{Word}
use Rattle.cns_units.proofs.words.write_words.Goals as goal

pub loop-word-preserved : goal.loop-word-preserved
loop-word-preserved g c =
    let inv = c.loop-word.invariant in
    parts_more _ _ _ (λ (w : Word). 32 ∷ word_text w) _ _ c.word-item.result inv.0 c.loop-word-test.true inv.1 inv.2 (rw (← c.word-item.is) c.in_ok-write_next.ensures)

pub returns-in_err-write_next : goal.returns-in_err-write_next
returns-in_err-write_next g c =
    let p = err_from_is_err_and c.from_residual.result c.from_residual.ensures.1 in
    let inv = c.loop-word.invariant in
    rw p.1 (parts_failed _ _ _ (λ (w : Word). 32 ∷ word_text w) _ _ c.word-item.result inv.0 c.loop-word-test.true inv.1 inv.2 (rw (← c.word-item.is) c.in_err-write_next.ensures))
