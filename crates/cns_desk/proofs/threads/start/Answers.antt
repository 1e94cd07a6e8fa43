use Rattle.cns_desk.proofs.Common.{crosses, sendable}
use Rattle.cns_desk.proofs.Crossing.{done_send, seat_send, shared_sync}
use Rattle.cns_desk.proofs.threads.start.Goals as goal

pub spawn_with-requires-send-F : goal.spawn_with-requires-send-F
spawn_with-requires-send-F g c κs within = search (sendable, crosses, shared_sync, seat_send) depth 20

pub spawn_with-requires-send-T : goal.spawn_with-requires-send-T
spawn_with-requires-send-T g c κs within = search (sendable, done_send) depth 20
