use Rattle.cns_tables.proofs.Common.{arith, drop_all, rules}
use Rattle.cns_tables.proofs.Written.{filled_more, no_text}
use Rattle.cns_tables.proofs.piece.write_form.Goals as goal

pub loop-piece-preserved : goal.loop-piece-preserved
loop-piece-preserved c = (search rules, filled_more _ _ _ _ _ _ _ _ _ c.piece-item.result c.loop-piece-test.true c.piece-item.is c.cut.ensures c.loop-piece.invariant.1 c.in_ok-write_markup.ensures c.in_ok-write_piece.ensures)

pub returns : goal.returns
returns c = grind (arith, c.loop-piece.invariant.1, drop_all c.loop-piece.piece-index c.args.pieces.now c.loop-piece-test.false, no_text c.loop-piece.rest.now)
