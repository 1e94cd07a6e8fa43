use Rattle.cns_book.proofs.Common.{◌∙◌, ◌^◌, ◌≤◌, sym, ap, subst, unsigned_abs, take_all, arith, Holding, IsSmallEntry, holding_at, booked, entry_key, All-from_recursion}
use Rattle.cns_book.proofs.EffectEntries.{place_there, books_step, cents_fit, shares_fit}
use Rattle.cns_book.proofs.effect.book.Goals as goal

pub add-requires : goal.add-requires
add-requires g c = let k = entry_key c.entry-item.result in record {
  there = grind (arith, place_there);
  entry = subst IsSmallEntry (sym c.entry-item.is) (All-from_recursion IsSmallEntry c.args.entries.now c.requires.small c.loop-entry.entry-index c.entry-item.result c.loop-entry-test.true);
  shares = subst (λ (h : Holding). unsigned_abs h.now ≤ 2 ^ 62) (sym (c.loop-entry.invariant.booked k)) (shares_fit c.args.entries.now c.loop-entry.entry-index (g.P.Positions.rows c.args.positions.now) k c.requires.small c.requires.few c.requires.rows);
  cents = subst (λ (h : Holding). unsigned_abs h.contract ≤ 2 ^ 126) (sym (c.loop-entry.invariant.booked k)) (cents_fit c.args.entries.now c.loop-entry.entry-index (g.P.Positions.rows c.args.positions.now) k c.requires.small c.requires.few c.requires.rows);
}

pub loop-entry-preserved : goal.loop-entry-preserved
loop-entry-preserved g c =
    let e = c.entry-item.result in let inv = c.loop-entry.invariant in
    record {
      places = λ k. c.add.ensures.places k ∙ inv.places k;
      booked = λ k. c.add.ensures.booked k ∙ ap (booked e k) (inv.booked k) ∙ books_step c.args.entries.now c.loop-entry.entry-index e k (holding_at (g.P.Positions.rows c.args.positions.now) k) c.loop-entry-test.true c.entry-item.is;
    }

pub returns-clause-booked : goal.returns-clause-booked
returns-clause-booked g c k = grind (arith, take_all, c.loop-entry.invariant.booked k)
