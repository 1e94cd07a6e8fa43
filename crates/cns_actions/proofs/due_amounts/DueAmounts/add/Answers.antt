use Rattle.cns_actions.proofs.Common.{◌∙◌, arith, keys_total, sorted_from}
use Rattle.cns_actions.proofs.DueAmounts.{amounts_added, found_apart, room_at, small_insert}
use Rattle.cns_actions.proofs.due_amounts.DueAmounts.add.Goals as goal

pub with-requires-clause-room : goal.with-requires-clause-room
with-requires-clause-room g c = grind (arith, room_at c.key-key.result c.self.inside.amounts.entries c.self.invariant.small)

pub invariant_of-self-2 : goal.invariant_of-self-2
invariant_of-self-2 g c =
    let es = c.self.inside.amounts.entries in
    let had = rw (c.copied.ensures ∙ c.get.ensures.value) at c.unwrap_or-had.ensures in
    record { order = sorted_from keys_total _ c.insert.ensures.ordered; small = rw c.in_ok-insert.ensures.entries (small_insert c.key-key.result c.with.result es (rw (c.with.ensures, had, c.key-key.ensures, c.self.view_is) c.requires.room) c.self.invariant.small) }

pub returns-clause-others : goal.returns-clause-others
returns-clause-others g c = grind (arith, found_apart c.self.inside.amounts.entries c.insert.new.self.entries c.key-key.result c.with.result c.in_ok-insert.ensures.updates.0)

pub returns-clause-amounts : goal.returns-clause-amounts
returns-clause-amounts g c = grind (arith, amounts_added c.self.inside.amounts.entries c.insert.new.self.entries c.key-key.result c.with.result c.in_ok-insert.ensures.updates.0 c.args.entry.now)
