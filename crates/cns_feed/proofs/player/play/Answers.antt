use Rattle.cns_feed.proofs.Common.{◌+◌, ◌-◌, arith, inl, inr, err_from_is_err_and, Keeps-refl}
use Rattle.cns_feed.proofs.PlayLemmas.{along-all, along-at, along-between, along-line, along-none, room-line, up_to-line, up_to-none}
use Rattle.cns_feed.proofs.RecordLemmas.{ends-any}
use Rattle.cns_feed.proofs.player.play.Goals as goal

pub loop-turn-init : goal.loop-turn-init
loop-turn-init g c = grind (arith, up_to-none, along-none)

pub returns-in_err-flush-clause-fault : goal.returns-in_err-flush-clause-fault
returns-in_err-flush-clause-fault g c =
    let p = err_from_is_err_and c.from_residual.result c.from_residual.ensures.1 in
    rw (p.1, p.2) (λ all q.
    along-between g.R.Read.remaining c.loop-turn.records _ _ _ _ _ _ _ _ all _ (λ done count. inl c.in_err-flush.ensures.err) c.flush.ensures.text (c.loop-turn.invariant.along all q))

pub returns-in_err-line-clause-fault : goal.returns-in_err-line-clause-fault
returns-in_err-line-clause-fault g c =
    let p = err_from_is_err_and c.from_residual-in_err-line.result c.from_residual-in_err-line.ensures.1 in
    rw (p.1, p.2) (λ all q.
    along-between g.R.Read.remaining c.loop-turn.records _ _ _ _ _ _ _ _ all _ (λ done count. inr (ends-any _ _ _ c.in_err-line.ensures)) c.flush.ensures.text (c.loop-turn.invariant.along all q))

pub returns-in_default-clause-few : goal.returns-in_default-clause-few
returns-in_default-clause-few g c all q = omega (arith, c.loop-turn-test.true, (along-all g.R.Read.remaining c.loop-turn.records _ _ _ _ _ _ _ all c.flush.ensures.text (rw c.in_default.is at c.in_ok-line.ensures) (c.loop-turn.invariant.along all q)).0)

pub returns-in_default-clause-text : goal.returns-in_default-clause-text
returns-in_default-clause-text g c all q = (along-all g.R.Read.remaining c.loop-turn.records _ _ _ _ _ _ _ all c.flush.ensures.text (rw c.in_default.is at c.in_ok-line.ensures) (c.loop-turn.invariant.along all q)).3

pub returns-in_default-clause-counts : goal.returns-in_default-clause-counts
returns-in_default-clause-counts g c all q = (along-all g.R.Read.remaining c.loop-turn.records _ _ _ _ _ _ _ all c.flush.ensures.text (rw c.in_default.is at c.in_ok-line.ensures) (c.loop-turn.invariant.along all q)).2

pub returns-in_err-response-clause-fault : goal.returns-in_err-response-clause-fault
returns-in_err-response-clause-fault g c =
    let p = err_from_is_err_and c.from_residual-in_err-response.result c.from_residual-in_err-response.ensures.1 in
    let one = rw c.in-Some.is at c.in_ok-line.ensures in
    rw (p.1, p.2) (λ all q. along-at g.R.Read.remaining c.loop-turn.records c.read_line.new.self _ _ _ _ _ _ _ _ _ _ all _ one.0 c.flush.ensures.text c.in_err-response.ensures.err (c.loop-turn.invariant.along all q))

pub loop-turn-preserved : goal.loop-turn-preserved
loop-turn-preserved g c =
    let inv = c.loop-turn.invariant in
    let one = rw c.in-Some.is at c.in_ok-line.ensures in
    let q = c.in_ok-response.ensures in
    record {
      counts = up_to-line _ _ _ _ c.add.ensures inv.counts;
      ready = one.1;
      room = room-line c.loop-turn.book.log _ _ (c.args.most - (c.loop-turn._turn + 1)) q.after (omega (arith, c.loop-turn-test.true, inv.room));
      along = λ all p. along-line g.R.Read.remaining c.loop-turn.records c.read_line.new.self _ _ _ _ _ _ _ _ _ _ _ _ all one.0 q.after q.response c.add.ensures c.flush.ensures.text q.text (inv.along all p);
    }

pub returns-clause-fault : goal.returns-clause-fault
returns-clause-fault g c all q =
    let turns = c.loop-turn-test.false in
    along-between g.R.Read.remaining c.loop-turn.records _ _ _ _ _ _ _ _ all _ (λ done count. inr (inr (omega (arith, turns, count)))) (Keeps-refl _) (c.loop-turn.invariant.along all q)
