use Rattle.cns_book.proofs.Common.{◌∙◌}
use Rattle.cns_book.proofs.EffectEntries.{next_booked, next_can}
use Rattle.cns_book.proofs.buy_in.book_fills.Goals as goal

pub book_fill-requires : goal.book_fill-requires
book_fill-requires g c =
    next_can (g.P.Positions.rows c.args.positions.now) (g.P.Positions.rows c.loop-fill.positions) c.args.execution.now c.args.given.now c.args.fills.now c.loop-fill.fill-index c.fill-item.result c.requires c.loop-fill.invariant.booked c.loop-fill-test.true c.fill-item.is

pub loop-fill-preserved : goal.loop-fill-preserved
loop-fill-preserved g c = record {
  booked = next_booked (g.P.Positions.rows c.args.positions.now) (g.P.Positions.rows c.loop-fill.positions) (g.P.Positions.rows c.book_fill.new.positions) c.args.execution.now c.args.given.now c.args.fills.now c.loop-fill.fill-index c.fill-item.result c.loop-fill.invariant.booked c.book_fill.ensures.booked c.loop-fill-test.true c.fill-item.is;
  places = λ k. c.book_fill.ensures.places k ∙ c.loop-fill.invariant.places k;
}
