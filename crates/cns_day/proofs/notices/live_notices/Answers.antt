use Rattle.cns_day.proofs.Common.{◌≡◌, ◌∙◌, sym, ap, ◌-◌, ◌^◌, take, arith, journal_of, notices, state_of, live_among}
use Rattle.cns_day.proofs.Numbering.{live_added, live_ends, live_passed, live_whole}
use Rattle.cns_day.proofs.notices.live_notices.Goals as goal

pub returns-in_default : goal.returns-in_default
returns-in_default c =
    let S = state_of c.args.book.now.log in
    let told = c.history_len-entries.ensures in
    live_whole S.opening S.accepted c.loop-number.live.items told.reached told.few
    (live_ends (journal_of S) c.loop-number.number c.loop-number.auto.number (2 ^ 32 - 2) c.loop-number.live.items (omega arith) (sym c.notice.ensures ∙ c.in_default.is) c.loop-number.invariant)

pub loop-number-preserved-then-not-is_live : goal.loop-number-preserved-then-not-is_live
loop-number-preserved-then-not-is_live c = grind (arith, live_passed)

pub loop-number-preserved : goal.loop-number-preserved
loop-number-preserved c = grind (arith, live_added)

pub returns : goal.returns
returns c =
    let S = state_of c.args.book.now.log in
    let told = c.history_len-entries.ensures in
    let J = journal_of S in
    let last : c.loop-number.number - 1 ≡ 2 ^ 32 - 2 = omega arith in
    live_whole S.opening S.accepted c.loop-number.live.items told.reached told.few (c.loop-number.invariant ∙ ap (λ n. live_among J (take n (notices J))) last)
