use Rattle.cns_units.proofs.Common.{◌≡◌, ◌≤◌, ◌*◌, drop, false, sum_of, plus}
use Rattle.cns_units.proofs.cusip.body_sum.Given as goal

abbrev pub invariant-loop-character : goal.invariant-loop-character
invariant-loop-character l = (l.sum ≤ 255 * l.character-index) × (plus l.sum (sum_of l.is_doubled (drop l.character-index l.body)) ≡ sum_of false l.body)
