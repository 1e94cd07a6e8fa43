-- A sheet may go to another thread, and be read by several.
-- For `start` of threads.rt in cns_desk.
use Rattle.cns_sheets.proofs.Common.{IsSend, crosses, sendable}
use Rattle.std.below.core.specs.contracts.clone.Clone+copy.TheImpl as copied
use denote.Param.Send.{IsSync}
use Rattle.std.specs.contracts.alloc.Global
use Rattle.std.specs.contracts.impls.GlobalAllocator.TheImpl as allocates
use Rattle.cns_units.proofs.cusip.Cusip.TheSendSync as cusip
use Rattle.cns_units.proofs.day.Day.TheSendSync as day
use Rattle.cns_units.proofs.price.Price.TheSendSync as price
use Rattle.cns_terms.proofs.holding.Key.TheSendSync as key
use Rattle.cns_tree.proofs.node.Lean.TheSendSync as lean
use Rattle.cns_tree.proofs.node.Subtree.TheLaws.TheKnot.{send-Subtree, sync-Subtree}
use Rattle.cns_sheets.proofs.columns.Columns.TheSendSync as columns
use Rattle.cns_sheets.specs.contracts.sheet.Sheet

-- it may go to another thread
pub sheet_send : IsSend (Sheet.the_row Global.the_row allocates.ghosts (copied.ghosts Global.the_row))
sheet_send = search (sendable, crosses, send-Subtree, cusip.the_send, day.the_send, price.the_send, key.the_send, columns.the_send, lean.the_send) depth 20

-- several threads may read it
pub sheet_sync : IsSync (Sheet.the_row Global.the_row allocates.ghosts (copied.ghosts Global.the_row))
sheet_sync = search (sendable, crosses, sync-Subtree, cusip.the_sync, day.the_sync, price.the_sync, key.the_sync, columns.the_sync, lean.the_sync) depth 20
