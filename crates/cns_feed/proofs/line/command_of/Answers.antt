use Rattle.cns_feed.proofs.Common.{arith, ◌≡◌, codes, refl, bytes_eq-Decides, Record, field, position_line, trade_line}
use Rattle.cns_feed.specs.Line.{line_of}
use Rattle.cns_feed.proofs.line.command_of.Goals as goal

trade_is : (fields : Record) → field fields 0 ≡ codes "TRADE" → trade_line fields ≡ line_of fields
unfolding line_of
trade_is fields e = rw e refl

position_is : (fields : Record) → field fields 0 ≡ codes "POSITION" → position_line fields ≡ line_of fields
unfolding line_of
position_is fields e = rw e refl

pub returns-then-eq : goal.returns-then-eq
returns-then-eq c = grind (arith, bytes_eq-Decides, trade_is)

pub returns-then-eq-2 : goal.returns-then-eq-2
returns-then-eq-2 c = grind (arith, bytes_eq-Decides, position_is)
