use Rattle.cns_exceptions.proofs.Common.{◌≡◌, ◌+◌, ap, ◌∙◌, arith}
use Rattle.cns_exceptions.proofs.PlayLemmas.{along_came, along_end, along_line, along_none}
use Rattle.cns_exceptions.proofs.play.play_with.Goals as goal

pub loop-turn-init : goal.loop-turn-init
loop-turn-init g c = record {
  ready = c.requires.ready;
  count = c.requires.none.0;
  along = λ all left. along_none g.R.Read.remaining c.args.records.now c.args.watched.now c.args.book.now.log c.args.survey.now _ all c.requires.none.1 left;
}

pub returns-then-branch : goal.returns-then-branch
returns-then-branch g c all left =
    along_end g.R.Read.remaining c.loop-turn.records c.args.watched.now _ _ _ _ _ _ _ _ _ _ all (rw c.if-branch.true at c.in_ok-step.ensures) c.loop-turn-test.true (c.loop-turn.invariant.along all left)

pub loop-turn-preserved : goal.loop-turn-preserved
loop-turn-preserved g c =
    let inv = c.loop-turn.invariant in
    let one = rw c.if-branch.false at c.in_ok-step.ensures in
    record {
      ready = one.0;
      count = one.1 ∙ ap (λ n. n + 1) inv.count;
      along = λ all left. along_line g.R.Read.remaining c.loop-turn.records c.step.new.records c.args.watched.now _ _ _ _ _ _ _ _ _ all inv.count one.2 (inv.along all left);
    }

pub returns : goal.returns
returns g c all left =
    let end = c.loop-turn.auto._turn-end in
    let over = c.loop-turn-test.false in
    let turned : c.args.most ≡ c.loop-turn._turn = omega (arith, end, over) in
    rw turned (along_came g.R.Read.remaining c.loop-turn.records c.args.watched.now _ _ _ _ _ _ all (c.loop-turn.invariant.along all left))
