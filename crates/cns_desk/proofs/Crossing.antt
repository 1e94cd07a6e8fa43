-- What a worker is given may go to another thread, and so may what it hands back.
-- For `start` of threads.rt.
use Rattle.cns_desk.proofs.Common.{IsSend, crosses, sendable}
use denote.Hole.{as_row}
use denote.RattleType.{RattleType}
use denote.Ref.{NamedLft}
use denote.Param.Send.{IsSync, shr_sync, view_send}
use denote.Param.SendFields.{declared_send, declared_sync}
use Rattle.std.below.core.proofs.ledger.Sent.{book_send as total_send, share_send}
use Rattle.std.below.core.specs.declared.ledger.Ledger as ledger
use Rattle.std.below.core.proofs.sync.Sent.{Mutex-sync}
use Rattle.std.specs.contracts.alloc.Global
use Rattle.cns_terms.proofs.command.Command.TheSendSync as command
use Rattle.cns_terms.proofs.worker.Worker.TheSendSync as worker
use Rattle.cns_positions.specs.declared.positions.Positions as positions
use Rattle.cns_sheets.proofs.Crossing.{sheet_send, sheet_sync}
use Rattle.cns_book.proofs.BookCrossing.{book_send}
use Rattle.cns_book.proofs.receipt.Receipt.TheSendSync as receipt
use Rattle.cns_desk.specs.contracts.desk.Desk
use Rattle.cns_desk.specs.contracts.kept.Kept
use Rattle.cns_desk.specs.contracts.kept.Kept.TheInside as of_kept
use Rattle.cns_desk.specs.contracts.log.Log
use Rattle.cns_desk.specs.contracts.log.Log.TheInside as of_log
use Rattle.cns_desk.specs.contracts.log.LogItem
use Rattle.cns_desk.specs.contracts.worker.Done
use Rattle.cns_desk.specs.contracts.worker.Shared
use Rattle.cns_desk.specs.contracts.seat.Seat
use Rattle.cns_desk.specs.contracts.seat.Seat.TheInside as of_seat

-- an item of a log may
item_send : IsSend LogItem.the_row
item_send = declared_send LogItem.the_type (receipt.the_send, (command.the_send, (search (sendable, crosses, sheet_send, sheet_sync) depth 20, tt)))

-- a log may
pub log_send : IsSend (as_row Log.the_field)
log_send = view_send _ _ _ _ _ (declared_send of_log.the_type (search (sendable, crosses, item_send) depth 20, (search sendable depth 20, (search sendable depth 20, tt))))

-- a book with its seats may
kept_send : (L P : RattleType) (l : ledger.Ghosts L.Denot) (g : positions.Ghosts P.Denot (Global.the_row).Denot) → IsSend P → IsSend (Kept.the_row L P l g)
kept_send L P l g s = view_send _ _ _ _ _ (declared_send (of_kept.the_type L P l g) (book_send P g s, (total_send L l, (share_send L l, tt))))

-- several threads may use a desk
pub desk_sync : (L P : RattleType) (l : ledger.Ghosts L.Denot) (g : positions.Ghosts P.Denot (Global.the_row).Denot) → IsSend P → IsSync (Desk.the_row L P l g)
desk_sync L P l g s = declared_sync (Desk.the_type L P l g) (Mutex-sync (Kept.the_row L P l g) (kept_send L P l g s), tt)

-- a seat may
pub seat_send : (L : RattleType) (l : ledger.Ghosts L.Denot) → IsSend (Seat.the_row L l)
seat_send L l = view_send _ _ _ _ _ (declared_send (of_seat.the_type L l) (worker.the_send, (search sendable depth 20, (share_send L l, tt))))

-- what a worker hands back may
pub done_send : (L : RattleType) (l : ledger.Ghosts L.Denot) → IsSend (Done.the_row L l)
done_send L l = declared_send (Done.the_type L l) (seat_send L l, (log_send, (search sendable depth 20, tt)))

-- what all workers share may be used by each
pub shared_sync : (e : NamedLft) (L P G R : RattleType) (l : ledger.Ghosts L.Denot) (g : positions.Ghosts P.Denot (Global.the_row).Denot) → IsSend P → IsSync G → IsSync R → IsSync (Shared.the_row e L P G R l g)
shared_sync e L P G R l g s sg sr = declared_sync (Shared.the_type e L P G R l g) (shr_sync _ _ R sr, (search sendable depth 20, (shr_sync _ _ _ (desk_sync L P l g s), (shr_sync _ _ G sg, tt))))
