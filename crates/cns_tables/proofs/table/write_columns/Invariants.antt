use Rattle.cns_tables.proofs.Common.{◌≡◌, ◌++◌, take, flat_map, [], ◌∷◌, filled, COLUMN}
use Rattle.cns_tables.proofs.table.write_columns.Given as goal

abbrev pub invariant-loop-column : goal.invariant-loop-column
invariant-loop-column l = l.out.items ≡ l.fn.out.items ++ flat_map (λ c. filled COLUMN.now (c.now ∷ [])) (take l.column-index l.column-items)
