use Rattle.cns_actions.proofs.Common.{◌∙◌, ap, subst, sym, None, held_above, holders_of, issue_of, takes_beyond, with_position}
use Rattle.cns_actions.proofs.BookingSums.{positions_kept}
use Rattle.cns_actions.proofs.Skipping.{all_left}
use Rattle.cns_actions.proofs.Summing.{AddsUp, first_adds, next_adds, next_passes, next_within}
use Rattle.cns_actions.proofs.acting.sum_of.Goals as goal

pub loop-holder-init : goal.loop-holder-init
loop-holder-init g c =
    let R = g.P.Positions.rows c.args.positions.now in
    let x = c.args.action.now in
    let t = takes_beyond R c.args.pending.now x in
    let all = ap with_position (all_left R c.in_order.ensures (issue_of x)) ∙ positions_kept (issue_of x) (held_above R None) in
    rw c.issue_of-issue.ensures (subst (AddsUp x t (holders_of x R) _) (sym all) (first_adds R c.in_order.ensures c.requires x t))

pub takes_beyond-requires-clause-within : goal.takes_beyond-requires-clause-within
takes_beyond-requires-clause-within g c =
    next_within c.in-Some.holder c.in-Some.ensures.next (sym c.has_position.ensures ∙ c.if-not-has_position.false) c.loop-holder.invariant (g.P.Positions.rows c.args.positions.now) c.requires

pub returns-then-takes_beyond-clause-large : goal.returns-then-takes_beyond-clause-large
returns-then-takes_beyond-clause-large g c =
    next_passes c.in-Some.holder c.in-Some.ensures.next (sym c.has_position.ensures ∙ c.if-not-has_position.false) c.loop-holder.invariant (sym c.takes_beyond.ensures ∙ c.if-takes_beyond.true)

pub loop-holder-preserved : goal.loop-holder-preserved
loop-holder-preserved g c =
    let d = c.of-change in
    let e = c.add.ensures in
    next_adds c.in-Some.holder c.in-Some.ensures.next (sym c.has_position.ensures ∙ c.if-not-has_position.false) c.loop-holder.invariant
    c.add.new.self d.result c.in-Some.ensures.range d.ensures.exact d.ensures.few (λ i. record { before = e.before i; after = e.after i; cents = e.cents i }) (sym c.takes_beyond.ensures ∙ c.if-takes_beyond.false)
