use Rattle.cns_book.proofs.Common.{◌≡◌, ◌∙◌, sym, ap, Some, of_z, to_z, arith, w64, option_map, is_listed, is_retired, issue_rules, journal, live_number, all_fail}
use Rattle.std.proofs.lemmas.Bool.{not-false}
use Rattle.cns_book.proofs.NoticeSteps.{notice_answer, notice_issue}
use Rattle.cns_book.proofs.RetransmittalShorts.{read_back}
use Rattle.cns_book.proofs.parts.Parts.notice_refusal.Goals as goal

pub returns-in-Some-issue_refusal-clause-refusal : goal.returns-in-Some-issue_refusal-clause-refusal
returns-in-Some-issue_refusal-clause-refusal g c L f =
    let q = c.in-Some.position in
    let same : to_z w64 (of_z w64 q) ≡ q = let small = c.member_position.ensures.small c.requires q c.in-Some.is in read_back q (omega (arith, small)) in
    sym (notice_issue L c.args.self.now c.args.movement.now (to_z w64 (of_z w64 q)) c.in-Some-issue_refusal.refusal (ap Some same ∙ c.in-Some.ensures.value L f) (sym (c.issue_refusal.ensures L f) ∙ c.in-Some-issue_refusal.is))

pub returns-in-Some-live_of-clause-refusal : goal.returns-in-Some-live_of-clause-refusal
returns-in-Some-live_of-clause-refusal g c L f = grind (arith, journal, all_fail, issue_rules, is_listed, is_retired, to_z, w64, of_z, read_back, notice_answer, not-false, option_map, live_number)

pub returns-in-None-clause-refusal : goal.returns-in-None-clause-refusal
returns-in-None-clause-refusal g c L f = grind (arith, journal, all_fail, issue_rules, is_listed, is_retired, to_z, w64, of_z, read_back, notice_answer, not-false, option_map, live_number)
