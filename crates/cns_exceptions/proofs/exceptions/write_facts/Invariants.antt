use Rattle.cns_exceptions.proofs.Common.{◌≡◌, ◌++◌, take, flat_map, fact_text}
use Rattle.cns_exceptions.proofs.exceptions.write_facts.Given as goal

abbrev pub invariant-loop-fact : goal.invariant-loop-fact
invariant-loop-fact l = l.out.items ≡ l.fn.out.items ++ flat_map fact_text (take l.fact-index l.facts)
