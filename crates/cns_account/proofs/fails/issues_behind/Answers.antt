use Rattle.cns_account.proofs.Common.{◌∙◌, ◌+◌, ap, fold, sym, arith, length, reverse}
use Rattle.std.proofs.Common.{drop}
use Rattle.std.proofs.lemmas.Iterator.Adapters.{YieldsList-from_rev_slice}
use Rattle.std.proofs.lemmas.Iterator.Consumers.{YieldsList-turn, YieldsList-end}
use Rattle.std.proofs.lemmas.List.{at_drop_more, at_drop_all, length_push}
use Rattle.cns_account.specs.Fails.{with_exchange}
use Rattle.cns_account.proofs.fails.issues_behind.Goals as goal

pub loop-exchange-preserved : goal.loop-exchange-preserved
loop-exchange-preserved c =
    let all = reverse c.args.exchanges.now in
    let n = length c.loop-exchange.yielded in
    let t = YieldsList-turn (YieldsList-from_rev_slice c.args.exchanges.now cc) c.loop-exchange.yielded _ c.loop-exchange.yielded_by _ _ c.in-Some.exchange c.in-Some.is c.next.ensures.steps in
    c.loop-exchange.invariant
    ∙ at_drop_more (fold with_exchange c.loop-exchange.issues.items) all n c.in-Some.exchange.now t.0
    ∙ ap (λ x. fold with_exchange (with_exchange c.loop-exchange.issues.items x) (drop (n + 1) all)) (sym t.1)
    ∙ (λ i. fold with_exchange (sym c.in_ok-add_exchange.ensures i) (drop (sym (length_push c.loop-exchange.yielded c.in-Some.exchange) i) all))

pub returns : goal.returns
returns c =
    let all = reverse c.args.exchanges.now in
    let t = YieldsList-end (YieldsList-from_rev_slice c.args.exchanges.now cc) c.loop-exchange.yielded _ c.loop-exchange.yielded_by _ _ c.in-None.is c.next.ensures.steps in
    let ended = t.1 in
    sym (c.loop-exchange.invariant ∙ at_drop_all (fold with_exchange c.loop-exchange.issues.items) all (length c.loop-exchange.yielded) (omega (arith, ended)))
