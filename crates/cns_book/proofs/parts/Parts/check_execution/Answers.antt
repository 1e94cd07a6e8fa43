use Rattle.cns_book.proofs.Common.{◌≡◌, ◌∙◌, ap, sym, subst, Option, Some, None, arith, min, option_map, nat_lt, true, List, ◌+◌, Activity, Contents, Follows, Liables, Noticed, batch_on, capped_short, journal, nat_tests, refusal, room_of, Command, kept_at}
use Rattle.cns_book.proofs.ExecutionRefusals.{execute_not_live, room_by, execute_refusal, verdict, members_of}
use Rattle.cns_book.proofs.NoticeSteps.{notice_missing}
use Rattle.cns_book.proofs.PartsWithin.{rows_within}
use Rattle.cns_book.proofs.parts.Parts.check_execution.Goals.{After-remaining, After-room_up_to-room}
use Rattle.cns_book.proofs.parts.Parts.check_execution.Given as given
use Rattle.cns_book.proofs.parts.Parts.check_execution.Goals as goal

-- the refusal, by what was read of a live notice
told : (g : given.Over) (c : After-remaining g) (L : List Activity) → Follows L c.args.self.now
    → refusal c.args.self.now.opening (journal c.args.self.now.opening L) (Command.Activity (Activity.Execute c.args.execution.now))
    ≡ verdict true (nat_lt c.remaining.result c.args.execution.now.shares) (nat_lt (c.args.self.now.closes + 1) (c.given-given.result.day + 2)) (nat_lt (room_by c.args.self.now c.given-given.result) c.args.execution.now.shares) (room_by c.args.self.now c.given-given.result)
told g c L f =
    let s = c.args.self.now in let x = c.args.execution.now in let y = c.given-given.result in
    let stage = subst (λ (s : Contents). Some c.stage.result ≡ option_map (λ (n : Noticed). n.stage) (kept_at s.notices x.notice)) c.self.view_is c.stage.ensures in
    let given = subst (λ (s : Contents). Some y ≡ option_map (λ (n : Noticed). n.given) (kept_at s.notices x.notice)) c.self.view_is c.given-given.ensures in
    grind (arith, c.in-Live.is, execute_refusal L s x c.stage.result y c.remaining.result (c.is_noticed.ensures.0 c.if-not-is_noticed.false) stage given c.remaining.ensures f (rows_within s c.requires).shares)

-- the room up to the shares, as the batch shows it
counted : (g : given.Over) (c : After-room_up_to-room g) → c.room_up_to-room.result ≡ min c.value-shares.result (room_by c.args.self.now c.given-given.result)
counted g c =
    let s = c.args.self.now in let y = c.given-given.result in
    c.room_up_to-room.ensures ∙ sym (ap (λ (o : Option Liables). min c.value-shares.result (room_of (capped_short s.rows y.issue) (members_of o))) (ap (λ (t : Contents). batch_on t.batches y.day y.issue) (sym c.self.view_is) ∙ ap (λ n. batch_on c.self.inside.batches n y.issue) (sym c.from-2.ensures) ∙ sym c.in-Some.ensures))

pub returns-then-not-is_noticed-clause-refused : goal.returns-then-not-is_noticed-clause-refused
returns-then-not-is_noticed-clause-refused g c L f = grind (arith, notice_missing)

pub returns-in-Withdrawn : goal.returns-in-Withdrawn
returns-in-Withdrawn g c =
    let stage = subst (λ (s : Contents). Some c.stage.result ≡ option_map (λ (n : Noticed). n.stage) (kept_at s.notices c.args.execution.now.notice)) c.self.view_is c.stage.ensures in
    record { refused = λ L f. execute_not_live L c.args.self.now c.args.execution.now c.stage.result (c.is_noticed.ensures.0 c.if-not-is_noticed.false) stage (grind (arith, c.in-Withdrawn.is)) f; accepted = tt; batch = tt }

pub returns-then-remaining-shares-clause-refused : goal.returns-then-remaining-shares-clause-refused
returns-then-remaining-shares-clause-refused g c L f = grind (arith, nat_tests, told g (goal.at.returns-then-remaining-shares-clause-refused g c).After-remaining L f, c.if-remaining-shares.true, c.value-shares.ensures.value)

pub returns-then-day-from-clause-refused : goal.returns-then-day-from-clause-refused
returns-then-day-from-clause-refused g c L f =
    grind (arith, nat_tests, told g (goal.at.returns-then-day-from-clause-refused g c).After-remaining L f, c.day.ensures L f, f.clock.closes, c.if-remaining-shares.false, c.value-shares.ensures.value, c.if-day-from.true, c.from.ensures)

pub returns-in_default-clause-refused : goal.returns-in_default-clause-refused
returns-in_default-clause-refused g c L f =
    let s = c.args.self.now in let y = c.given-given.result in
    let none : batch_on s.batches y.day y.issue ≡ None = ap (λ (t : Contents). batch_on t.batches y.day y.issue) (sym c.self.view_is) ∙ ap (λ n. batch_on c.self.inside.batches n y.issue) (sym c.from-2.ensures) ∙ sym c.in_default.ensures in
    grind (arith, nat_tests, told g (goal.at.returns-in_default-clause-refused g c).After-remaining L f, c.day.ensures L f, f.clock.closes, ap (λ (o : Option Liables). room_of (capped_short s.rows y.issue) (members_of o)) none, c.if-remaining-shares.false, c.value-shares.ensures.value, c.if-day-from.false, c.from.ensures, c.value-shares.ensures.range.0)

pub returns-then-room-shares-clause-refused : goal.returns-then-room-shares-clause-refused
returns-then-room-shares-clause-refused g c L f =
    grind (arith, nat_tests, told g (goal.at.returns-then-room-shares-clause-refused g c).After-remaining L f, counted g (goal.at.returns-then-room-shares-clause-refused g c).After-room_up_to-room, c.day.ensures L f, f.clock.closes, c.if-remaining-shares.false, c.value-shares.ensures.value, c.if-day-from.false, c.from.ensures, c.if-room-shares.true)

pub returns-clause-accepted : goal.returns-clause-accepted
returns-clause-accepted g c =
    record {
      range = (c.value-shares.ensures.range.0, c.value-shares.ensures.range.1, c.value.ensures.range);
      named = c.is_noticed.ensures.0 c.if-not-is_noticed.false;
      there = subst (λ (s : Contents). Some c.given-given.result ≡ option_map (λ (n : Noticed). n.given) (kept_at s.notices c.args.execution.now.notice)) c.self.view_is c.given-given.ensures;
      accepted = λ L f. grind (arith, nat_tests, told g (goal.at.returns-clause-accepted g c).After-remaining L f, counted g (goal.at.returns-clause-accepted g c).After-room_up_to-room, c.day.ensures L f, f.clock.closes, c.if-remaining-shares.false, c.value-shares.ensures.value, c.if-day-from.false, c.from.ensures, c.if-room-shares.false);
    }
