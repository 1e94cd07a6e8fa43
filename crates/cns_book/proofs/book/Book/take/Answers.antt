use Rattle.cns_book.proofs.Common.{◌≡◌, ◌∙◌, ap, reverse, length, arith, ◌<◌, ◌+◌, ◌-◌, ◌∷◌, [], ◌++◌, get_or, length-append, Taken, accepted, answer_to, length-reverse, rules, reverse-append}
use Rattle.cns_book.proofs.BookTaking.{has_room, book_stays, book_grows}
use Rattle.cns_book.proofs.book.Book.take.Goals as goal

pub answer-requires : goal.answer-requires
answer-requires g c =
    let H = reverse c.self.inside.history.taken in
    has_room c.self.inside.limit H c.self.inside.counts c.self.inside.parts c.self.invariant (grind (arith, (rw (← c.self.view_is) at c.is_full.ensures).1))

pub push-requires : goal.push-requires
push-requires g c = grind (arith, length-reverse)

pub invariant_of-self-in_err-reply : goal.invariant_of-self-in_err-reply
invariant_of-self-in_err-reply g c = grind (arith, book_stays, accepted)

pub invariant_of-self-2 : goal.invariant_of-self-2
invariant_of-self-2 g c =
    let H = reverse c.self.inside.history.taken in let L = accepted c.self.inside.parts.opening H in
    let few : length H < c.self.inside.limit = grind (arith, (rw (← c.self.view_is) at c.is_full.ensures).1) in
    let taken : Taken = record { worker = c.args.worker; seq = get_or c.self.inside.counts (c.value.result - 1) 0 + 1; command = c.args.command; reply = c.in_ok-reply.reply } in
    let pushed : c.push.new.self.taken ≡ c.self.inside.history.taken ++ taken ∷ [] = c.push.ensures ∙ ap (λ es. es ++ taken ∷ []) c.in_ok-reserve.ensures.taken in
    rw (pushed, reverse-append c.self.inside.history.taken (taken ∷ []))
    (rw c.value.ensures.value (book_grows c.self.inside.limit H c.self.inside.counts c.self.inside.parts c.answer.new.self c.args.worker c.args.command c.in_ok-reply.reply c.self.invariant few c.value.ensures.range.0 c.value.ensures.range.1 (search rules) c.in_ok-reply.ensures.opening (c.in_ok-reply.ensures.step L c.self.invariant.follows)))

pub returns-clause-ok : goal.returns-clause-ok
returns-clause-ok g c =
    let H = reverse c.self.inside.history.taken in let L = accepted c.self.inside.parts.opening H in
    let taken : Taken = record { worker = c.args.worker; seq = get_or c.self.inside.counts (c.value.result - 1) 0 + 1; command = c.args.command; reply = c.in_ok-reply.reply } in
    let pushed : c.push.new.self.taken ≡ c.self.inside.history.taken ++ taken ∷ [] = c.push.ensures ∙ ap (λ es. es ++ taken ∷ []) c.in_ok-reserve.ensures.taken in
    let step = c.in_ok-reply.ensures.step L c.self.invariant.follows in
    let history : reverse c.push.new.self.taken ≡ taken ∷ H = ap reverse pushed ∙ reverse-append c.self.inside.history.taken (taken ∷ []) in
    rw (← c.self.view_is) (record {
      index = omega (arith, c.len.ensures, ap length pushed, length-append c.self.inside.history.taken (taken ∷ []), length-reverse c.self.inside.history.taken);
      seq = ap (λ n. n + 1) (rw c.value.ensures.value (c.self.invariant.counted c.args.worker c.value.ensures.range.0 c.value.ensures.range.1));
      reply = step.0 ∙ ap (λ o. answer_to o L c.args.command) c.in_ok-reply.ensures.opening;
      after = λ i. record { opening = c.in_ok-reply.ensures.opening i; limit = c.self.inside.limit; history = history i };
    })
