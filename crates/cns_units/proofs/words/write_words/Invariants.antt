use Rattle.cns_units.proofs.Common.{◌≡◌, ℕ, List, ◌++◌, drop, Appends, words_text}
use Rattle.cns_units.proofs.words.write_words.Given as goal

abbrev pub invariant-loop-word : goal.invariant-loop-word
invariant-loop-word g l = (done : List ℕ) × (words_text l.words ≡ done ++ words_text (drop l.word-index l.words))
    × Appends (g.W.Write.contents l.fn.writer) (g.W.Write.contents l.writer) done
