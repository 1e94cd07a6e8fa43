use Rattle.cns_book.proofs.Common.{◌∙◌, sym, subst, List, arith, nat_tests, ◌≤◌, unsigned_abs, AllByRecursion, Row, called_in, corporation_limit, oldest_at}
use Rattle.cns_book.proofs.RetransmittalShorts.{above_zero, read_back, row_given, row_passed, uncalled_row}
use Rattle.cns_book.proofs.parts.Parts.add_shorts.Goals.{then-row-ge0-via-then-row-ge0, then-row-ge0-via-else-row-ge0+then-not-is_called}
use Rattle.cns_book.proofs.parts.Parts.add_shorts.Goals as goal

-- each row is within its limit
abbrev AreFew : List Row → Type 0
AreFew rs = AllByRecursion (λ r. unsigned_abs r.closing ≤ corporation_limit) rs

pub loop-row-preserved-then-row-ge0 : goal.loop-row-preserved-then-row-ge0
loop-row-preserved-then-row-ge0 g c =
    let few = subst AreFew c.in-Some.ensures.steps c.loop-row.invariant.few in let same = read_back c.in-Some.row.closing few.0 in
    record {
      few = few.1;
      left = λ d. row_passed (oldest_at c.args.self.now.rows) d c.in-Some.row _ _ (called_in c.loop-row.calls d) _ c.in-Some.ensures.steps (c.loop-row.invariant.left d) (elim c.then-row-ge0.branch [
        | then-row-ge0-via-then-row-ge0 w ↦ λ is. absurd (above_zero c.in-Some.row d (rw same at w.if-row-ge0.true) is)
        | then-row-ge0-via-else-row-ge0+then-not-is_called w ↦ uncalled_row c.loop-row.calls d c.in-Some.row (sym w.is_called.ensures ∙ w.if-not-is_called.true)
      ]);
    }

pub loop-row-preserved-in_default : goal.loop-row-preserved-in_default
loop-row-preserved-in_default g c =
    let few = subst AreFew c.in-Some.ensures.steps c.loop-row.invariant.few in
    record { few = few.1; left = λ d. grind (arith, nat_tests, row_passed, c.loop-row.invariant.left d) }

pub loop-row-preserved : goal.loop-row-preserved
loop-row-preserved g c =
    let few = subst AreFew c.in-Some.ensures.steps c.loop-row.invariant.few in let same = read_back c.in-Some.row.closing few.0 in
    record { few = few.1; left = λ d. row_given (oldest_at c.args.self.now.rows) d c.in-Some.row _ _ _ (called_in c.loop-row.calls d) _ _ c.in-Some.ensures.steps (c.loop-row.invariant.left d) (grind (arith, nat_tests)) (grind arith) (grind arith) (c.in_ok-short.ensures.ok d) }
