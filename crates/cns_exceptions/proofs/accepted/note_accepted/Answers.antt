use Rattle.cns_exceptions.proofs.Common.{◌≡◌, ◌∙◌, ◌-◌, ◌^◌, ap, sym, arith, map, reverse, take, with_entry, with_found}
use Rattle.cns_exceptions.proofs.AcceptedLemmas.{entries_found, entry_found, none_found}
use Rattle.cns_exceptions.proofs.accepted.note_accepted.Goals as goal

pub loop-place-init : goal.loop-place-init
loop-place-init c = sym (none_found c.args.invalid.now c.args.findings.now)

pub loop-place-preserved : goal.loop-place-preserved
loop-place-preserved c =
    let place = c.loop-place.place in
    c.note_entry.ensures
    ∙ ap (map (with_entry c.args.invalid.now place c.in-Some.entry)) c.loop-place.invariant
    ∙ entry_found c.args.invalid.now c.args.book.now.log.history place c.loop-place.auto.place c.in-Some.entry (sym c.entry.ensures ∙ c.in-Some.is) c.args.findings.now

pub returns-in_default : goal.returns-in_default
returns-in_default c =
    c.loop-place.invariant
    ∙ entries_found c.args.invalid.now c.args.book.now.log.history c.loop-place.place c.args.findings.now c.loop-place.auto.place c.loop-place-test.true (sym c.entry.ensures ∙ c.in_default.is)

pub returns : goal.returns
returns c =
    let end = c.loop-place.auto.place-end in
    let over = c.loop-place-test.false in
    let last : c.loop-place.place - 1 ≡ 2 ^ 32 - 2 = omega (arith, end, over) in
    c.loop-place.invariant ∙ ap (λ n. map (with_found c.args.invalid.now (take n (reverse c.args.book.now.log.history))) c.args.findings.now) last
