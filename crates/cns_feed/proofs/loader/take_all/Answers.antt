use Rattle.cns_feed.proofs.Common.{length-append, ◌+◌, ◌-◌, arith, inr, None}
use Rattle.cns_feed.proofs.PlayLemmas.{along-all, along-line, along-none, room-line, up_to-line, up_to-none}
use Rattle.cns_feed.proofs.loader.take_all.Goals as goal

pub loop-turn-init : goal.loop-turn-init
loop-turn-init g c = grind (arith, up_to-none, along-none)

pub returns-in_default-clause-few : goal.returns-in_default-clause-few
returns-in_default-clause-few g c all q = omega (arith, c.loop-turn-test.true, (along-all g.R.Read.remaining c.loop-turn.records _ _ _ None None None _ all tt (rw c.in_default.is at c.in_ok-line.ensures) (c.loop-turn.invariant.along all q)).0)

pub returns-in_default-clause-after : goal.returns-in_default-clause-after
returns-in_default-clause-after g c all q = (along-all g.R.Read.remaining c.loop-turn.records _ _ _ None None None _ all tt (rw c.in_default.is at c.in_ok-line.ensures) (c.loop-turn.invariant.along all q)).1

pub returns-in_default-clause-counts : goal.returns-in_default-clause-counts
returns-in_default-clause-counts g c all q = (along-all g.R.Read.remaining c.loop-turn.records _ _ _ None None None _ all tt (rw c.in_default.is at c.in_ok-line.ensures) (c.loop-turn.invariant.along all q)).2

pub loop-turn-preserved : goal.loop-turn-preserved
loop-turn-preserved g c =
    let inv = c.loop-turn.invariant in
    let one = rw c.in-Some.is at c.in_ok-line.ensures in
    let q = c.in_ok-response.ensures in
    record {
      counts = up_to-line _ _ _ _ c.add.ensures inv.counts;
      ready = one.1;
      room = room-line c.loop-turn.book.log _ _ (c.args.most - (c.loop-turn._turn + 1)) q.after (omega (arith, c.loop-turn-test.true, inv.room));
      along = λ all p. along-line g.R.Read.remaining c.loop-turn.records c.read_line.new.self _ _ _ _ _ None None None None _ _ _ all one.0 q.after q.response c.add.ensures tt tt (inv.along all p);
    }

pub returns-clause-err : goal.returns-clause-err
returns-clause-err g c = inr (inr (λ all q. grind (arith, length-append, c.loop-turn.invariant.along all q)))
