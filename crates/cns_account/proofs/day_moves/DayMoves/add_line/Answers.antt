use Rattle.cns_account.proofs.Common.{◌∙◌, ap, get, exact_keys, key_cmp, of_cause, unmoved, Moves}
use Rattle.cns_account.proofs.Gathered.{put_at}
use Rattle.cns_account.proofs.day_moves.DayMoves.add_line.Goals as goal

pub returns : goal.returns
returns c =
    let b = c.in-Booking.booking in
    let f : Moves → Moves = λ m. of_cause m b b.activity in
    rw c.in-Booking.is (put_at key_cmp exact_keys unmoved f (get key_cmp c.args.self.now.moves) (get key_cmp c.insert.new.self) _ c.with_booking-moves.result c.in_ok-insert.ensures.updates.0 (c.with_booking-moves.ensures ∙ ap f c.at.ensures))
