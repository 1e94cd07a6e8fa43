use Rattle.cns_program.proofs.Common.{◌≡◌, ◌-◌, string_bytes, refl, ap, rules, arith, ◌∙◌, compact_text, view, tally_of, total_text}
use Rattle.cns_program.proofs.Tallied.{tally_is, tally_told}
use Rattle.cns_program.proofs.tally.tally_line.Goals as goal

pub returns : goal.returns
returns c =
    let o = c.args.outcome.now in
    let slice = c.as_slice.result.now in
    let dividends : c.as_str.result.now ≡ total_text = search rules in
    let marks : c.as_str-2.result.now ≡ total_text = search rules in
    let same : view c.in_ok-tally.tally ≡ tally_of o.book.log slice = tally_is o.book.log slice _ _ _ _ c.in_ok-counted.counted.counts.items _ _ c.in_ok-tally.ensures
    (ap (λ n. n - 1) c.day-closes.ensures) c.history_len-commands.ensures.len c.in_ok-counted.ensures.counts dividends c.in_ok-counted.ensures.lines marks in
    let is : view c.in_ok-tally.tally ≡ tally_of o.book.log o.logs.items = same ∙ ap (λ logs. tally_of o.book.log logs) c.as_slice.ensures.value in
    let told : string_bytes c.in_ok-line.line ≡ compact_text (tally_of o.book.log o.logs.items) = tally_told _ _ _ _ is c.in_ok-line.ensures.text in
    c.in_ok-push.ensures.bytes ∙ rw (c.in_ok-push.ensures.ascii (omega arith), told) refl
