-- A close tells the date of its day, and how many rows its sheet and how many members its batches have.
-- For `close_counts` of laws.rt.
use Rattle.cns_book.proofs.Common.{Activity, ◌≡◌, ◌∙◌, ap, sym, subst, refl, ◌≤◌, cond, List, [], ◌∷◌, flat_map, length, Option, Some, None, arith, is_none, length-append, Command, Cusip, Day, IsWhole, Journal, Refusal, State, after, at_close, batch_at, batch_since, batches_since, closings, date, day, issues, journal, journal_of, left_of, length-map, next, opened, option_map_or, posting, refusal, sheet_rows, liable_at, activity_reply, opening_stays, whole-after, whole-next, Reply}
use Rattle.cns_terms.proofs.ClosedDays.{keeps-after}
use Rattle.cns_terms.specs.declared.reply.Closed.{Closed}
use Rattle.cns_book.specs.Closes.{CloseCounts, TellsDay, liable_in}
use Rattle.cns_book.proofs.RetransmittalSteps.{sum_of}

-- executions leave the members in their batches
still_liable : (J K : Journal) (cs : List Cusip) → length (flat_map (batch_since J K) cs) ≡ length (flat_map (batch_at K) cs)
still_liable J K [] = refl
still_liable J K (c ∷ cs) = grind (arith, length-append, length-map (batch_at K c) (left_of J (day K) c), still_liable J K cs)

-- what an accepted close tells, and what the journal has at the close of its day from then on
by_refusal : (S : State) (more : List Command) (d : Day) (c : Closed) (o : Option Refusal) → IsWhole S.opening (journal_of S) → refusal S.opening (journal_of S) (Command.Activity (Activity.Close d)) ≡ o
    → option_map_or Reply.Refused o (activity_reply S.opening (journal_of S) (Activity.Close d)) ≡ Reply.Closed c
    → TellsDay (after (next S (Command.Activity (Activity.Close d))) more) c
by_refusal S more d c (Some r) w o e = cc
by_refusal S more d c None w o e =
    let J = journal_of S in let S' = next S (Command.Activity (Activity.Close d)) in let J' = journal_of (after S' more) in
    let told : activity_reply S.opening J (Activity.Close d) ≡ Reply.Closed c = e in
    let C : Closed = record { day = day J; date = date S.opening J; rows = length (sheet_rows S.opening J); liable = length (liable_at J) } in
    let is : C ≡ c = cc in
    let closed : journal_of S' ≡ posting S.opening J (Activity.Close d) ∷ J = ap (λ r. journal S.opening (cond (is_none r) (Activity.Close d ∷ S.accepted) S.accepted)) o in
    let there : at_close J' (day J) ≡ J = (keeps-after S' more (whole-next S (Command.Activity (Activity.Close d)) w)).by_place (day J) (subst (λ K. day J ≤ length (closings K)) (sym closed) (omega arith)) ∙ ap (λ K. at_close K (day J)) closed ∙ grind arith in
    let same = opening_stays S' more in
    let liable = ap (λ K. liable_in (batches_since J' K)) there ∙ sum_of (batch_since J' J) (issues J) ∙ still_liable J' J (issues J) in
    subst (TellsDay (after S' more)) is (record { date = λ i. date (same i) (there i); rows = λ i. length (sheet_rows (sym same i) (sym there i)); liable = sym liable })

-- whatever is taken later, a closed day is as its close told
pub close_counts : CloseCounts
close_counts opening cmds more d c e =
    let S = after (opened opening) cmds in
    let w : IsWhole S.opening (journal_of S) = subst (λ o. IsWhole o (journal_of S)) (sym (opening_stays (opened opening) cmds)) (whole-after opening cmds) in
    by_refusal S more d c _ w refl e
