use Rattle.cns_book.proofs.Common.{◌≡◌, map, take, taken_in}
use Rattle.cns_book.proofs.history.History.copied.Given as goal

abbrev pub invariant-loop-brief : goal.invariant-loop-brief
invariant-loop-brief g l = l.copy.items ≡ map (taken_in l.self-inside.replies.items) (take l.brief-index l.self-inside.entries.items)
