use Rattle.cns_notices.proofs.Common.{◌≡◌, ◌∙◌, ◌<◌, sym, ap, Some, cond, is_eq, arith, Numbers, number_at, numbers_of, Place, place_cmp}
use Rattle.std.proofs.lemmas.Map.Views.{All-keys-insert_entry}
use Rattle.cns_notices.proofs.latest.Latest.put.Goals as goal
use Rattle.cns_notices.proofs.latest.Latest.put.Goals.{in-Ok, in-Err}

-- the map that is changed has the numbers from before
before : (g : _) (c : goal.Joined-inserted g) → c.match-take.numbers.entries ≡ numbers_of c.self.inside.numbers
before g c = grind arith

pub invariant_of-self-2 : goal.invariant_of-self-2
invariant_of-self-2 g c = elim c.match-inserted.branch [
  | in-Ok w ↦ rw (w.in-Ok.ensures.entries, before g c) (All-keys-insert_entry place_cmp (c.args.cusip, c.value.result) c.args.number (λ (q : Place). q.1 < 65536) _ c.self.invariant c.value.type_inv)
  | in-Err w ↦ rw (w.in-Err.ensures.err, before g c) c.self.invariant
]

pub returns-clause-ok : goal.returns-clause-ok
returns-clause-ok g c = elim c.match-inserted.branch [
  | in-Ok w ↦ rw w.result-is (λ p. rw (sym c.value.ensures.value, sym c.self.view_is) (w.in-Ok.ensures.updates.0 p ∙ ap (λ (ns : Numbers). cond (is_eq (place_cmp (c.args.cusip, c.value.result) p)) (Some c.args.number) (number_at ns p)) (before g c)))
  | in-Err w ↦ rw w.result-is tt
]
