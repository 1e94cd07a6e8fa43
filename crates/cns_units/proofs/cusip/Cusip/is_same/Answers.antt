-- Texts that the order doesn't tell apart are the same.
use Rattle.cns_units.proofs.Common.{arith}
use Rattle.std.proofs.lemmas.Map.Text.{is_eq-slice_cmp}
use Rattle.std.proofs.lemmas.Slice.Eq.{bytes_eq-Decides}
use Rattle.cns_units.proofs.cusip.Cusip.is_same.Goals as goal

pub returns : goal.returns
returns c = grind (arith, bytes_eq-Decides c.args.self.now c.args.other.now, is_eq-slice_cmp c.args.self.now c.args.other.now)
