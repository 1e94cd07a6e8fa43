use Rattle.cns_account.proofs.Common.{get, exact_keys, unmoved, with_more, key_cmp}
use Rattle.cns_account.proofs.Gathered.{put_at}
use Rattle.cns_account.proofs.day_moves.DayMoves.add_entry.Goals as goal

pub returns : goal.returns
returns c =
    put_at key_cmp exact_keys unmoved (λ m. record m { trades = with_more m.trades c.args.entry.now.shares c.args.entry.now.cents }) (get key_cmp c.args.self.now.moves) (get key_cmp c.insert.new.self) _ c.with_entry-moves.result c.in_ok-insert.ensures.updates.0 (rw (c.at.ensures) at c.with_entry-moves.ensures)
