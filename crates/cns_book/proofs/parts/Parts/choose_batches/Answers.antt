use Rattle.cns_book.proofs.Common.{◌≡◌, ◌∙◌, ap, arith, List, Activity, Cusip, DaySheet, Follows, batches_of, batches_since, called_in, filter_map, journal, oldest_at, option_map, short_in, with_shorts}
use Rattle.cns_book.proofs.RetransmittalSteps.{can_choose, chosen_same, ok_both}
use Rattle.cns_book.proofs.parts.Parts.choose_batches.Given as given
use Rattle.cns_book.proofs.parts.Parts.choose_batches.Goals.{Joined-not-is_empty}
use Rattle.cns_book.proofs.parts.Parts.choose_batches.Goals as goal

-- the shorts on the sheet were given, if anything was called
added : (g : given.Over) (c : Joined-not-is_empty g) (d : Cusip) → called_in c.if-not-is_empty.calls d ≡ option_map (with_shorts (filter_map (short_in (oldest_at c.args.self.now.rows) d) c.args.sheet.now.rows)) (called_in c.in_ok-calls.calls d)
added g c d = grind arith

pub choose-requires : goal.choose-requires
choose-requires g c =
    can_choose c.requires.room.activities c.args.self.now c.requires.room.follows c.args.sheet.now.rows (ap (λ (s : DaySheet). s.rows) (c.requires.cut c.requires.room.activities c.requires.room.follows)) c.in_ok-calls.calls c.if-not-is_empty.calls c.in_ok-calls.ensures.total c.in_ok-calls.ensures.shorts c.in_ok-calls.ensures.some (added g (goal.at.choose-requires g c).Joined-not-is_empty)

pub returns-clause-batches : goal.returns-clause-batches
returns-clause-batches g c =
    let s = c.args.self.now in
    ok_both c.choose.result (λ v. v.items ≡ batches_of c.if-not-is_empty.calls) (λ v. (L : List Activity) → Follows L s → v.items ≡ batches_since (journal s.opening L) (journal s.opening L)) c.choose.ensures.batches c.choose.ensures.order
    (λ v is sorted L f. is ∙ chosen_same L s f c.args.sheet.now.rows (ap (λ (s : DaySheet). s.rows) (c.requires.cut L f)) c.in_ok-calls.calls c.if-not-is_empty.calls c.in_ok-calls.ensures.total c.in_ok-calls.ensures.shorts c.in_ok-calls.ensures.some (added g (goal.at.returns-clause-batches g c).Joined-not-is_empty) sorted)
