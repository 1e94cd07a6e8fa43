use Rattle.cns_tables.proofs.Common.{◌≡◌, ◌++◌, take, flat_map, cell_of}
use Rattle.cns_tables.proofs.table.write_cells.Given as goal

abbrev pub invariant-loop-piece : goal.invariant-loop-piece
invariant-loop-piece l = l.out.items ≡ l.fn.out.items ++ flat_map cell_of (take l.piece-index l.pieces)
