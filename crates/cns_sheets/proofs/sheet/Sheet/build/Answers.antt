use Rattle.cns_sheets.proofs.Common.{◌∙◌, ◌==◌, arith, option_copied, IsMarked, each_filter, paying, rows_for}
use Rattle.cns_sheets.proofs.Balance.{cut_balanced}
use Rattle.cns_sheets.proofs.Kept.{prices_rise, rows_cut}
use Rattle.cns_sheets.proofs.RowSums.{marks_stay}
use Rattle.cns_sheets.proofs.sheet.Sheet.build.Goals as goal

pub collect-requires-clause-now_rise : goal.collect-requires-clause-now_rise
collect-requires-clause-now_rise g c = rw (c.as_slice.ensures.value, c.in_ok-prices.ensures.prices) (prices_rise c.args.prices.now c.in_ok-prices.ensures.order)

pub of_rows-requires : goal.of_rows-requires
of_rows-requires g c =
    let order = c.in_ok-rows.ensures.order in
    let ready = c.requires.ready order in
    let cut = rows_cut c.args.prices.now (g.P.Positions.rows c.args.positions.now) (paying c.args.payments.now) c.in_ok-paid.paid order c.in_ok-rows.ensures.paid_rise c.in_ok-paid.ensures.cents c.prices_before-earlier.ensures.prices (c.as_slice.ensures.value ∙ c.in_ok-prices.ensures.prices) c.in_ok-rows.ensures.rows in
    record {
      prices_rise = rw c.in_ok-prices.ensures.prices (prices_rise c.args.prices.now c.in_ok-prices.ensures.order);
      rows_rise = cut.order;
      rows_marked = c.in_ok-rows.ensures.marked;
      balanced = cut_balanced (option_copied c.args.before) c.args.prices.now (g.P.Positions.rows c.args.positions.now) _ _ order c.prices_before-earlier.ensures.rows_rise c.prices_before-earlier.ensures.closings ready cut c.in_ok-paid.paid c.in_ok-rows.ensures.paid_rise c.in_ok-paid.ensures.zero c.in_ok-paid.ensures.cents;
      few = ready.few _ cut;
      small_marks = λ a n. marks_stay (rows_for c.in_ok-rows.rows a) (each_filter IsMarked (λ r. r.account == a) c.in_ok-rows.rows c.in_ok-rows.ensures.marked) (ready.few _ cut a) n ((ready.amounts _ cut).cents a n);
      small_dividends = λ a n. omega (arith, (ready.amounts _ cut).dividends a n);
    }

pub returns-clause-cut : goal.returns-clause-cut
returns-clause-cut g c =
    let cut = rows_cut c.args.prices.now (g.P.Positions.rows c.args.positions.now) (paying c.args.payments.now) c.in_ok-paid.paid c.in_ok-rows.ensures.order c.in_ok-rows.ensures.paid_rise c.in_ok-paid.ensures.cents c.prices_before-earlier.ensures.prices (c.as_slice.ensures.value ∙ c.in_ok-prices.ensures.prices) c.in_ok-rows.ensures.rows in
    rw c.of_rows.ensures cut

pub collect-requires-clause-small : goal.collect-requires-clause-small
collect-requires-clause-small g c = λ order. (c.requires.ready order).small
