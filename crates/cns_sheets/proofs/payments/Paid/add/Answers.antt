use Rattle.cns_sheets.proofs.Common.{◌∙◌, ◌+ℤ◌, arith, keys_total, sorted_from, ints, to_z-of_z, w128}
use Rattle.cns_sheets.proofs.Booked.{cents_added, fits, had_is, sum_added}
use Rattle.cns_sheets.proofs.payments.Paid.add.Goals as goal

pub overflow_add-value : goal.overflow_add-value
overflow_add-value g c =
    let had = had_is c.args.key c.self.inside.cents.entries c.copied.result c.value.result (c.value.ensures ∙ c.unwrap_or-had.ensures) (c.copied.ensures ∙ c.get.ensures.value) in
    rw (to_z-of_z w128 c.value.result (record { sfits = c.value.type_inv }), to_z-of_z w128 c.args.cents c.ranges.cents) (fits (c.value.result +ℤ c.args.cents) (rw (had, c.self.view_is) c.requires))

pub invariant_of-self-2 : goal.invariant_of-self-2
invariant_of-self-2 g c = sorted_from keys_total _ c.insert.ensures.ordered

pub returns : goal.returns
returns g c = record {
  cents = λ k. grind (arith, ints, c.get.ensures.value, cents_added c.self.inside.cents.entries c.insert.new.self.entries c.args.key c.of.result c.args.cents c.in_ok-insert.ensures.updates.0);
  sum = grind (arith, ints, c.get.ensures.value, sum_added c.args.key c.of.result c.args.cents c.self.inside.cents.entries, c.in_ok-insert.ensures.entries);
}
