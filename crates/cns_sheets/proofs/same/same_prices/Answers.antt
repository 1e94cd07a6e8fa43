use Rattle.cns_sheets.proofs.Common.{arith, Cusip, Price, bytes_eq-Decides, is_eq-slice_cmp}
use Rattle.std.proofs.lemmas.Slice.Eq.{slice_eq-Decides}
use Rattle.cns_sheets.proofs.same.same_prices.Goals as goal

pub returns : goal.returns
returns c = slice_eq-Decides (λ (a b : Cusip × Price). grind (arith, is_eq-slice_cmp, bytes_eq-Decides)) c.args.one.now c.args.other.now c.eq.result c.eq.ensures
