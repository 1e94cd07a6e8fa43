use Rattle.cns_units.proofs.Common.{◌≡◌, FitsSigned, unsigned_abs, err_from_is_err_and, to_z-of_z}
use mir.Syntax.{w128}
use Rattle.cns_units.proofs.OutputLemmas.{front_longer, writes_then}
use Rattle.cns_units.proofs.CentsLemmas.{cents_text-negative, cents_text-positive}
use Rattle.cns_units.proofs.money.write_signed.Goals.{then-cents-lt0+in_ok-write_bytes, else-cents-lt0}
use Rattle.cns_units.proofs.money.write_signed.Goals as goal

pub returns-in_err-write_bytes : goal.returns-in_err-write_bytes
returns-in_err-write_bytes g c =
    let fits : FitsSigned w128 c.args.cents = c.ranges.cents in
    let p = err_from_is_err_and c.from_residual.result c.from_residual.ensures.1 in
    rw (p.1, cents_text-negative c.args.cents (rw to_z-of_z at c.if-cents-lt0.true)) (front_longer _ _ _ _ c.in_err-write_bytes.ensures)

pub returns : goal.returns
returns g c =
    let fits : FitsSigned w128 c.args.cents = c.ranges.cents in
    let size : c.unsigned_abs.result ≡ unsigned_abs c.args.cents = rw to_z-of_z at c.unsigned_abs.ensures.value in
    elim c.if-cents-lt0.branch [
      | then-cents-lt0+in_ok-write_bytes w ↦
          rw (cents_text-negative c.args.cents (rw to_z-of_z at w.if-cents-lt0.true)) (writes_then _ _ _ _ _ _ w.in_ok-write_bytes.ensures (rw (w.writer-is, size) at c.write_amount.ensures))
      | else-cents-lt0 w ↦
          rw (cents_text-positive c.args.cents (rw to_z-of_z at w.if-cents-lt0.false)) (rw (w.writer-is, size) at c.write_amount.ensures)
    ]
