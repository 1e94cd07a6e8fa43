-- A book may go to another thread, where its positions may. Rattle shows as much by itself of a type that nothing below it
-- holds itself; a tree's boxes do, so it is shown here of what a sheet stands in.
-- For `start` of threads.rt in cns_desk: the struct Book of book.rt, and the struct Parts of parts.rt.
use Rattle.cns_book.proofs.Common.{IsSend, crosses, sendable}
use denote.RattleType.{RattleType}
use denote.Param.Send.{view_send}
use Rattle.std.below.core.specs.contracts.clone.Clone+copy.TheImpl as copied
use denote.Param.SendFields.{declared_send}
use Rattle.std.specs.contracts.alloc.Global
use Rattle.std.specs.contracts.impls.GlobalAllocator.TheImpl as allocates
use Rattle.cns_units.proofs.day.Day.TheSendSync as day
use Rattle.cns_prices.proofs.prices.Prices.TheSendSync as prices
use Rattle.cns_trades.proofs.trades.Trades.TheSendSync as trades
use Rattle.cns_dividends.proofs.dividends.Dividends.TheSendSync as dividends
use Rattle.cns_notices.proofs.notices.Notices.TheSendSync as notices
use Rattle.cns_retransmit.proofs.batches.Batches.TheSendSync as batches
use Rattle.cns_positions.specs.declared.positions.Positions as positions
use Rattle.std.proofs.Crossing.{frees, send}
use Rattle.cns_sheets.proofs.Crossing.{sheet_send, sheet_sync}
use Rattle.cns_book.proofs.history.History.TheSendSync as history
use Rattle.cns_book.specs.contracts.members.Members
use Rattle.cns_book.specs.contracts.closed_days.ClosedDays
use Rattle.cns_book.specs.contracts.parts.Parts
use Rattle.cns_book.specs.contracts.parts.Parts.TheInside as of_parts
use Rattle.cns_book.specs.contracts.book.Book
use Rattle.cns_book.specs.contracts.book.Book.TheInside as of_book

-- closed days may go to another thread
days_send : IsSend (ClosedDays.the_row Global.the_row allocates.ghosts (copied.ghosts Global.the_row))
days_send = search (sendable, crosses, sheet_send, sheet_sync) depth 20

-- and the members' accounts
members_send : IsSend (Members.the_row Global.the_row allocates.ghosts)
members_send = search (sendable, crosses) depth 20

-- the parts of a book may, field by field
parts_send : (P : RattleType) (g : positions.Ghosts P.Denot (Global.the_row).Denot) → IsSend P → IsSend (Parts.the_row P Global.the_row g allocates.ghosts (copied.ghosts Global.the_row))
parts_send P g s = view_send _ _ _ _ _ (declared_send (of_parts.the_type P Global.the_row g allocates.ghosts (copied.ghosts Global.the_row)) (search sendable depth 20, (search (sendable, day.the_send) depth 20, (search (sendable, day.the_send) depth 20, (search sendable depth 20, (members_send, (prices.the_send Global.the_row allocates.ghosts send frees, (trades.the_send Global.the_row allocates.ghosts send frees, (dividends.the_send Global.the_row allocates.ghosts send frees, (search (sendable, s) depth 20, (days_send, (notices.the_send Global.the_row allocates.ghosts send frees, (batches.the_send Global.the_row allocates.ghosts send frees, tt)))))))))))))

-- and a book
pub book_send : (P : RattleType) (g : positions.Ghosts P.Denot (Global.the_row).Denot) → IsSend P → IsSend (Book.the_row P Global.the_row g allocates.ghosts (copied.ghosts Global.the_row))
book_send P g s = view_send _ _ _ _ _ (declared_send (of_book.the_type P Global.the_row g allocates.ghosts (copied.ghosts Global.the_row)) (search sendable depth 20, (history.the_send Global.the_row allocates.ghosts (copied.ghosts Global.the_row) send frees, (search sendable depth 20, (parts_send P g s, tt)))))
